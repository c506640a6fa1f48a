-- What a routine leaves that changes the state, and the specification of the routine of an opcode.
use Rattle.std.proofs.Common.{◌≡◌, ◌∙◌, ℕ, zero, suc, ◌≤◌, ◌+◌, ℤ, pos, Bool, true, false, ◌||◌, List, [], ◌∷◌, ◌++◌, map, take, slice_get, Some, refl, sym, ap, true≢false}
use Rattle.std.specs.List.{list_any}
use Rattle.adv_io.specs.Steps.{Step, said_steps}
use Rattle.inform_meaning.specs.Worlds.{Program}
use Rattle.inform_logic.specs.Stages.{Stage}
use Rattle.scott_types.specs.declared.states.State.{State}
use Rattle.scott_types.specs.declared.styles.Style.{Style}
use Rattle.scott_types.specs.declared.opcodes.Opcode.{Opcode}
use Rattle.scott_types.specs.declared.opcodes.Opcode.TheVariants.{Nothing, Say, Get, More}
use Rattle.scott_types.specs.Database.{Database}
use Rattle.scott_types.specs.State.{Fits}
use Rattle.scott_types.specs.Opcode.{opcode_of, uses as parameter_count}
use Rattle.scott_types.specs.Style.{in_style}
use Rattle.scott_rules.specs.Opcodes.{opcode_effect}
use Rattle.trans_specs.specs.Views.{Shows}
use Rattle.trans_specs.specs.Steps.{text_steps}
use Rattle.trans_specs.specs.Names.{opcode_name}
use Rattle.trans_specs.specs.Standing.{StandsFor}
use Rattle.trans_specs.specs.Calls.{StageLeft}
use Rattle.trans_specs.proofs.Room.{one_less}
use Rattle.trans_specs.proofs.Kept.{Kept}
use Rattle.trans_specs.proofs.Acts.{CallActs}
use Rattle.trans_actions.specs.declared.table.Kind.TheVariants as kinds
use Rattle.trans_actions.specs.Helpers.{uses}
use Rattle.trans_actions.proofs.Tests.{helper_room}

-- where a stage shows another state that fits, and nothing else was changed, that state is left
pub left_by : {db : Database} {s t : State} {noun : List ℕ} {w w' : Stage} {steps : List Step}
    → StandsFor db s noun w → Kept w w' → Shows t w' → Fits db t → w'.past ≡ w.past ++ steps
    → StageLeft db t noun steps w w'
left_by {db} {noun = noun} stands keeps shows fits past = record {
  stands = record {
    ready = record {
      shows = shows;
      fits = fits;
      tables = keeps.tables db stands.ready.tables;
      working = keeps.working stands.ready.working;
    };
    has_noun = keeps.noun noun stands.has_noun;
  };
  past_is = past;
  lines_stay = keeps.lines_stay;
  draws_stay = keeps.draws_stay;
  globals_stay = keeps.globals_stay;
  arrays_stay = keeps.arrays_stay;
}

-- ---- the specification of the routine of an opcode

abbrev pub opcode_steps : Database → ℕ
opcode_steps db = text_steps db + 20

-- opcodes whose routine is called as a statement
abbrev pub is_called : Opcode → Bool
is_called Nothing = false
is_called (Say message) = false
is_called Get = false
is_called More = false
is_called _ = true

-- the arguments of a call: the parameters that the opcode has
abbrev pub arguments_of : ℕ → ℕ → ℕ → List ℤ
arguments_of n a b = map pos (take (parameter_count (opcode_of n)) (a ∷ b ∷ []))

-- where a line has the opcode, its routine does what the opcode does
abbrev pub OpcodeSpec : Style → Database → Program → ℕ → Type 0
OpcodeSpec style db p n = uses kinds.Opcode db n ≡ true → is_called (opcode_of n) ≡ true → (a b : ℕ)
    (s : State) (noun : List ℕ) (w : Stage) (d : ℕ) → helper_room ≤ d → StandsFor db s noun w
    → let t = opcode_effect (in_style style db) noun (opcode_of n) a b s in
    CallActs t.value.over db p d (opcode_name n) (arguments_of n a b) w noun t.value.state
    (said_steps t.events) (opcode_steps db)

-- a number at this place is one of them
pub some_is : (test : ℕ → Bool) (xs : List ℕ) (i : ℕ) {n : ℕ} → slice_get xs i ≡ Some n
    → test n ≡ true → list_any test xs ≡ true
some_is test [] i at h = cc
some_is test (x ∷ xs) zero {n} at h = first (test x) refl where
  first : (b : Bool) → test x ≡ b → b || list_any test xs ≡ true
  first true is = refl
  first false is = absurd (true≢false (sym h ∙ ap test (same at) ∙ is)) where
    same : Some x ≡ Some n → n ≡ x
    same e = cc
some_is test (x ∷ xs) (suc i) at h = after (test x) (some_is test xs i at h) where
  after : (b : Bool) → list_any test xs ≡ true → b || list_any test xs ≡ true
  after true more = refl
  after false more = more

-- a number of calls from which two were taken
pub two_less : (P : ℕ → Type 0) (most d : ℕ) → suc (suc most) ≤ d
    → ((k : ℕ) → most ≤ k → P (suc (suc k))) → P d
two_less P most d h by = one_less P (suc most) d h
    (λ k few. one_less (λ n. P (suc n)) most k few by)

-- a routine that is there for one opcode alone
pub alone : (db : Database) (n : ℕ) → uses kinds.Opcode db n ≡ true
    → list_any (uses kinds.Opcode db) (n ∷ []) ≡ true
alone db n h = some_is (uses kinds.Opcode db) (n ∷ []) 0 refl h
