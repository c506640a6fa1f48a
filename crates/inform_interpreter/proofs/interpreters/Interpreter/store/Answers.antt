use Rattle.std.proofs.Common.{◌≡◌, ◌∙◌, Option, Some, None, true, false, to_z, of_z, w32, rules, sym, ap, refl}
use Rattle.std.specs.Prelude.{is_some}
use Rattle.inform_meaning.specs.declared.traps.Trap.TheVariants as t
use Rattle.inform_meaning.specs.Frames as f
use Rattle.inform_meaning.specs.Parts.{store, store_by}
use Rattle.inform_meaning.specs.Worlds.{stored, entries_of, entry_at}
use Rattle.inform_worlds.specs.Views.{world_of}
use Rattle.inform_interpreter.specs.Leading.{config_at}
use Rattle.inform_interpreter.specs.Interpreters.{place_of}
use Rattle.inform_interpreter.specs.Doing.{wanted}
use Rattle.inform_interpreter.proofs.Doing.{traps, gives-world}
use Rattle.inform_interpreter.proofs.interpreters.Interpreter.store.Goals as goal

-- an entry is there where the call says so
there : {X : Type 0} (o : Option X) → true ≡ is_some o → (x : X) × (o ≡ Some x)
there None is = absurd (cc)
there (Some x) is = (x, refl)

not-there : {X : Type 0} (o : Option X) → false ≡ is_some o → o ≡ None
not-there None is = refl
not-there (Some x) is = absurd (cc)

pub returns : goal.returns
returns c =
    let i = c.args.self.now in
    let index : to_z w32 (of_z w32 c.args.index) ≡ c.args.index = search rules in
    let none = not-there (entry_at (entries_of c.args.name.now (world_of i.world)) (to_z w32 (of_z w32 c.args.index))) (sym c.if-store.false ∙ c.store.ensures.found) in
    traps 0 (wanted (f.Stores c.args.name.now c.args.words c.args.index) c.args.a) t.Index c.trap.result i c.trap.new.self
    c.trap.ensures.exit (rw (c.store.ensures.same c.if-store.false) at c.trap.ensures.trapped) c.requires.idle
    (λ lines draws n past. let k = config_at (place_of i lines draws) n past in
    ap (λ i. store c.args.name.now c.args.words i c.args.a k) (sym index)
    ∙ ap (λ o. store_by o (stored c.args.name.now c.args.words (to_z w32 (of_z w32 c.args.index)) c.args.a) k) none)

pub returns-then-store : goal.returns-then-store
returns-then-store c = λ seen given.
    let i = c.args.self.now in
    let index : to_z w32 (of_z w32 c.args.index) ≡ c.args.index = search rules in
    let value : to_z w32 (of_z w32 c.args.a) ≡ c.args.a = search rules in
    let found = there (entry_at (entries_of c.args.name.now (world_of i.world)) (to_z w32 (of_z w32 c.args.index))) (sym c.if-store.true ∙ c.store.ensures.found) in
    gives-world 0 (wanted (f.Stores c.args.name.now c.args.words c.args.index) c.args.a) f.Normal i _ seen given refl tt
    c.requires.idle refl c.store.ensures.names refl refl
    (λ lines draws n past. let k = config_at (place_of i lines draws) n past in
    ap (λ i. store c.args.name.now c.args.words i c.args.a k) (sym index)
    ∙ ap (λ o. store_by o (stored c.args.name.now c.args.words (to_z w32 (of_z w32 c.args.index)) c.args.a) k) found.1
    ∙ ap (λ a. (f.Normal, record k { world = stored c.args.name.now c.args.words (to_z w32 (of_z w32 c.args.index)) a k.world })) (sym value)
    ∙ ap (λ w. (f.Normal, record k { world = w })) (sym (c.store.ensures.stored c.if-store.true)))
