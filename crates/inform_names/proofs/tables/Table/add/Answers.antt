use Rattle.std.proofs.Common.{◌≡◌, ◌∙◌, ℕ, Bool, Bor, List, [], ◌∷◌, ◌++◌, map, cond, None, Some, sym, ap}
use Rattle.std.specs.Option.{option_or}
use Rattle.std.specs.Str.{bytes_eq}
use Rattle.indexmap.specs.IndexMap.{get}
use Rattle.indexmap.proofs.CallerLemmas.{insert_entry-new}
use Rattle.inform_names.specs.declared.meanings.Meaning.{Meaning}
use Rattle.inform_names.specs.Tables.{found_in}
use Rattle.inform_names.proofs.Lookups.{found_by_view, found_push, keeps}
use Rattle.inform_names.proofs.tables.Table.add.Goals as goal

pub returns-in-Some : goal.returns-in-Some
returns-in-Some c =
    λ other. keeps c.args.self.now c.args.name.now other c.in-Some.field-0 c.args.meaning
    (sym c.find.ensures ∙ c.in-Some.is)

pub returns-in_ok-insert-in-None : goal.returns-in_ok-insert-in-None
returns-in_ok-insert-in-None c = λ other.
    let eq : Bor (List ℕ) → Bor (List ℕ) → Bool =
    λ (a : Bor (List ℕ)). λ (b : Bor (List ℕ)). bytes_eq a.now b.now in
    let key : Bor (List ℕ) = c.bytes.result in
    let absent : get eq c.self.inside.meanings key ≡ None =
    found_by_view c.self.inside.meanings.entries key.now
    ∙ ap (λ (table : List (List ℕ × Meaning)). found_in table key.now) c.self.view_is
    ∙ ap (found_in c.args.self.now) c.bytes.ensures
    ∙ sym c.find.ensures
    ∙ c.in-None.is in
    let entries : c.insert.new.self.entries ≡ c.self.inside.meanings.entries
    ++ (key, c.args.meaning) ∷ [] =
    c.in_ok-insert-in-None.ensures.entries
    ∙ insert_entry-new eq c.self.inside.meanings key c.args.meaning absent in
    ap (λ (es : List (Bor (List ℕ) × Meaning)). found_in
    (map (λ e. (e.0.now, e.1)) es) other) entries
    ∙ found_push c.self.inside.meanings.entries key c.args.meaning other
    ∙ ap (λ (table : List (List ℕ × Meaning)). option_or (found_in table other)
    (cond (bytes_eq other key.now) (Some c.args.meaning) None)) c.self.view_is
    ∙ ap (λ (name : List ℕ). option_or (found_in c.args.self.now other)
    (cond (bytes_eq other name) (Some c.args.meaning) None)) c.bytes.ensures
