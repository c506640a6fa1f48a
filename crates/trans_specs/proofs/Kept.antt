-- What changes of a state leave as it was.
use Rattle.std.proofs.Common.{◌≡◌, ◌∙◌, ℕ, ℤ, Bool, if◌then◌else◌, List, codes, Some, refl, ap}
use Rattle.inform_logic.specs.Stages.{Stage, with_global, with_array, said}
use Rattle.scott_types.specs.Database.{Database}
use Rattle.trans_specs.specs.Standing.{HasTables, CanWork, HasNoun}
use Rattle.trans_specs.specs.Views.{shown_globals, shown_arrays}
use Rattle.trans_specs.specs.Programs.{IsOther}

-- What shows no state is the same: the tables, what a turn works with, and the noun text.
pub record Kept (w w' : Stage) : Type 0 where
  pub tables : (db : Database) → HasTables db w → HasTables db w'
  pub working : CanWork w → CanWork w'
  pub noun : (noun : List ℕ) → HasNoun noun w → HasNoun noun w'
  pub lines_stay : w'.lines ≡ w.lines
  pub draws_stay : w'.draws ≡ w.draws
  pub globals_stay : (name : List ℕ) → IsOther name shown_globals
      → w'.globals name ≡ w.globals name
  pub arrays_stay : (name : List ℕ) → IsOther name shown_arrays → w'.arrays name ≡ w.arrays name

-- one change after another, none, and bytes that are said
pub kept_then : {w w1 w2 : Stage} → Kept w w1 → Kept w1 w2 → Kept w w2
kept_then h k = record {
  tables = λ db t. k.tables db (h.tables db t);
  working = λ c. k.working (h.working c);
  noun = λ noun n. k.noun noun (h.noun noun n);
  lines_stay = k.lines_stay ∙ h.lines_stay;
  draws_stay = k.draws_stay ∙ h.draws_stay;
  globals_stay = λ name other. k.globals_stay name other ∙ h.globals_stay name other;
  arrays_stay = λ name other. k.arrays_stay name other ∙ h.arrays_stay name other;
}

pub kept : (w : Stage) → Kept w w
kept w = record {
  tables = λ db t. t;
  working = λ c. c;
  noun = λ noun n. n;
  lines_stay = refl;
  draws_stay = refl;
  globals_stay = λ name other. refl;
  arrays_stay = λ name other. refl;
}

pub kept_said : (bytes : List ℕ) (w : Stage) → Kept w (said bytes w)
kept_said bytes w = record {
  tables = λ db t. t;
  working = λ c. c;
  noun = λ noun n. n;
  lines_stay = refl;
  draws_stay = refl;
  globals_stay = λ name other. refl;
  arrays_stay = λ name other. refl;
}

-- ---- the globals of a state

-- all is kept but what shows the room
pub kept_here : (z : ℤ) (w : Stage) → Kept w (with_global (codes "here") z w)
kept_here z w = record {
  tables = λ db t. t;
  working = λ c. c;
  noun = λ noun n. n;
  lines_stay = refl;
  draws_stay = refl;
  globals_stay = λ name other.
      ap (λ (b : Bool). if b then Some z else w.globals name) other.0;
  arrays_stay = λ name other. refl;
}

-- all is kept but what shows the saved room
pub kept_saved : (z : ℤ) (w : Stage) → Kept w (with_global (codes "saved") z w)
kept_saved z w = record {
  tables = λ db t. t;
  working = λ c. c;
  noun = λ noun n. n;
  lines_stay = refl;
  draws_stay = refl;
  globals_stay = λ name other.
      ap (λ (b : Bool). if b then Some z else w.globals name) other.1.0;
  arrays_stay = λ name other. refl;
}

-- all is kept but what shows the counter
pub kept_cur : (z : ℤ) (w : Stage) → Kept w (with_global (codes "cur") z w)
kept_cur z w = record {
  tables = λ db t. t;
  working = λ c. c;
  noun = λ noun n. n;
  lines_stay = refl;
  draws_stay = refl;
  globals_stay = λ name other.
      ap (λ (b : Bool). if b then Some z else w.globals name) other.1.1.0;
  arrays_stay = λ name other. refl;
}

-- all is kept but what shows how long the light lasts
pub kept_light : (z : ℤ) (w : Stage) → Kept w (with_global (codes "light") z w)
kept_light z w = record {
  tables = λ db t. t;
  working = λ c. c;
  noun = λ noun n. n;
  lines_stay = refl;
  draws_stay = refl;
  globals_stay = λ name other.
      ap (λ (b : Bool). if b then Some z else w.globals name) other.1.1.1.0;
  arrays_stay = λ name other. refl;
}

-- all is kept but what shows whether the room has to be described
pub kept_redraw : (z : ℤ) (w : Stage) → Kept w (with_global (codes "redraw") z w)
kept_redraw z w = record {
  tables = λ db t. t;
  working = λ c. c;
  noun = λ noun n. n;
  lines_stay = refl;
  draws_stay = refl;
  globals_stay = λ name other.
      ap (λ (b : Bool). if b then Some z else w.globals name) other.1.1.1.1.0;
  arrays_stay = λ name other. refl;
}

-- ---- the arrays of a state

-- all is kept but what shows the places of the items
pub kept_item : (zs : List ℤ) (w : Stage) → Kept w (with_array (codes "item") zs w)
kept_item zs w = record {
  tables = λ db t. t;
  working = λ c. c;
  noun = λ noun n. n;
  lines_stay = refl;
  draws_stay = refl;
  globals_stay = λ name other. refl;
  arrays_stay = λ name other.
      ap (λ (b : Bool). if b then Some zs else w.arrays name) other.0;
}

-- all is kept but what shows the flags
pub kept_flag : (zs : List ℤ) (w : Stage) → Kept w (with_array (codes "flag") zs w)
kept_flag zs w = record {
  tables = λ db t. t;
  working = λ c. c;
  noun = λ noun n. n;
  lines_stay = refl;
  draws_stay = refl;
  globals_stay = λ name other. refl;
  arrays_stay = λ name other.
      ap (λ (b : Bool). if b then Some zs else w.arrays name) other.1.0;
}

-- all is kept but what shows the backup counters
pub kept_ctr : (zs : List ℤ) (w : Stage) → Kept w (with_array (codes "ctr") zs w)
kept_ctr zs w = record {
  tables = λ db t. t;
  working = λ c. c;
  noun = λ noun n. n;
  lines_stay = refl;
  draws_stay = refl;
  globals_stay = λ name other. refl;
  arrays_stay = λ name other.
      ap (λ (b : Bool). if b then Some zs else w.arrays name) other.1.1.0;
}

-- all is kept but what shows the backup rooms
pub kept_rsave : (zs : List ℤ) (w : Stage) → Kept w (with_array (codes "rsave") zs w)
kept_rsave zs w = record {
  tables = λ db t. t;
  working = λ c. c;
  noun = λ noun n. n;
  lines_stay = refl;
  draws_stay = refl;
  globals_stay = λ name other. refl;
  arrays_stay = λ name other.
      ap (λ (b : Bool). if b then Some zs else w.arrays name) other.1.1.1.0;
}
