use Rattle.std.proofs.Common.{◌≡◌, ◌∙◌, ℕ, ℤ, Bool, Vec, Global, List, [], ◌∷◌, ◌++◌, true, false, None, sym, ap, rules, w32, to_z, of_z}
use Rattle.std.specs.Prelude.{is_some}
use Rattle.std.specs.Map.{lookup}
use Rattle.std.specs.Str.{bytes_eq}
use Rattle.indexmap.specs.IndexMap.{get, insert_entry}
use Rattle.indexmap.proofs.CallerLemmas.{insert_entry-new}
use Rattle.adv_compiler.specs.Index.{found_in}
use Rattle.adv_compiler.proofs.Lookups.{lookup-push, keeps_known, some_copied, not_some, added}
use Rattle.adv_compiler.proofs.names.Names.add.Goals as goal

pub returns-clause-found : goal.returns-clause-found
returns-clause-found c = λ word.
    let absent : found_in c.args.self.now c.args.name.now ≡ None =
    not_some _ (ap is_some (sym c.get.ensures.value) ∙ some_copied c.get.result ∙ sym c.is_some.ensures ∙ c.if-is_some.false) in
    let eq : Vec ℕ Global → Vec ℕ Global → Bool = λ (a : Vec ℕ Global). λ (b : Vec ℕ Global). bytes_eq a.items b.items in
    let same : to_z w32 (of_z w32 c.args.number) ≡ c.args.number = search rules in
    let none : get eq c.args.self.now.numbers c.in_ok-key.key ≡ None =
    ap (λ (b : List ℕ). found_in c.args.self.now b) c.in_ok-key.ensures.items ∙ absent in
    let entries : c.insert.new.self.entries ≡ c.args.self.now.numbers.entries ++ (c.in_ok-key.key, c.args.number) ∷ [] =
    c.in_ok-insert.ensures.entries
    ∙ ap (λ (z : ℤ). insert_entry eq c.args.self.now.numbers.entries c.in_ok-key.key z) same
    ∙ insert_entry-new eq c.args.self.now.numbers c.in_ok-key.key c.args.number none in
    ap (λ (es : List (Vec ℕ Global × ℤ)). lookup (λ v. bytes_eq word v.items) es) entries
    ∙ lookup-push (λ v. bytes_eq word v.items) c.args.self.now.numbers.entries c.in_ok-key.key c.args.number
    ∙ ap (λ (b : List ℕ). added c.args.self.now word b c.args.number) c.in_ok-key.ensures.items

pub returns-then-is_some-clause-found : goal.returns-then-is_some-clause-found
returns-then-is_some-clause-found c = λ word.
    keeps_known c.args.self.now c.args.name.now word c.args.number
    (ap is_some (sym c.get.ensures.value) ∙ some_copied c.get.result ∙ sym c.is_some.ensures ∙ c.if-is_some.true)
