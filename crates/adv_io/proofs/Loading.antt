-- What a load from a shelf in memory answers.
use Rattle.std.proofs.Common.{◌≡◌, ◌∙◌, ◌↔◌, Bool, ℕ, ◌<◌, ◌≤◌, false, List, length, Option, Some, None, Ok, Err, Vec, Global, refl, ap, arith}
use Rattle.std.proofs.lemmas.Bool.{le-leb, lt-leb}
use Rattle.std.specs.Prelude.{IsTrue, IsErrOf}
use Rattle.std.specs.FinMap.{get}
use Rattle.adv_io.specs.CallCount.{fails_next}
use Rattle.adv_io.specs.Shelf.{Loads}
use Rattle.adv_io.specs.Shelved.{Shelved, stock_of, called, within, loaded}
use Rattle.adv_io.specs.declared.faults.ShelfFault.TheVariants.{Absent, Failed, TooLong, Memory}

-- a call that doesn't fail answers by the file of that name
pub loaded-file : (shelf : Shelved) (name : List ℕ) (limit : ℕ) (file : Option (List ℕ)) → fails_next shelf.calls ≡ false → get shelf.files name ≡ file → loaded shelf name limit ≡ within limit file
loaded-file shelf name limit file goes is = rw (goes, is) refl

-- a file of more bytes than the limit is too long
pub within-long : (limit : ℕ) (bytes : List ℕ) → limit < length bytes → within limit (Some bytes) ≡ Err (TooLong (length bytes))
within-long limit bytes over = rw (lt-leb (length bytes) limit over) refl

-- and any other is given
pub within-fits : (limit : ℕ) (bytes : List ℕ) → length bytes ≤ limit → within limit (Some bytes) ≡ Ok bytes
within-fits limit bytes fits = rw (le-leb (length bytes) limit fits) refl

-- an answer other than that it failed, where the call doesn't fail
module _ {X : Type 0} (fails : Bool) (goes : fails ≡ false) where
  pub absent-answer : IsErrOf {T = X} (Err Absent) Failed ↔ IsTrue fails
  absent-answer = (λ failed. absurd cc, λ fails. absurd cc)

  pub long-answer : (n : ℕ) → IsErrOf {T = X} (Err (TooLong n)) Failed ↔ IsTrue fails
  long-answer n = (λ failed. absurd cc, λ fails. absurd cc)

  pub memory-answer : IsErrOf {T = X} (Err Memory) Failed ↔ IsTrue fails
  memory-answer = (λ failed. absurd cc, λ fails. absurd cc)

  pub file-answer : (x : X) → IsErrOf (Ok x) Failed ↔ IsTrue fails
  file-answer x = (λ failed. absurd cc, λ fails. absurd cc)

-- one more call that doesn't fail leaves the count of faults
same_faults : (old new : Shelved) → fails_next old.calls ≡ false → new ≡ called old → new.calls.faults ≡ old.calls.faults
same_faults old new goes is = ap (λ (shelf : Shelved). shelf.calls.faults) is ∙ rw goes refl

-- such a call keeps a shelf's promises, whatever it answers
module _ (old new : Shelved) (name : List ℕ) (limit : ℕ) (goes : fails_next old.calls ≡ false) (is : new ≡ called old) where
  -- where the name has no file
  pub loads-absent : get old.files name ≡ None → Loads {A = Global} (stock_of old) (stock_of new) name limit (Err Absent)
  loads-absent none = record {
    within = tt;
    found = tt;
    refused = (none, same_faults old new goes is);
    files_stay = ap (λ (shelf : Shelved). Some shelf.files) is;
    later = omega (arith, same_faults old new goes is);
    steady = tt;
  }

  -- where it has too long a one
  pub loads-long : (bytes : List ℕ) → get old.files name ≡ Some bytes → limit < length bytes → Loads {A = Global} (stock_of old) (stock_of new) name limit (Err (TooLong (length bytes)))
  loads-long bytes file over = record {
    within = tt;
    found = tt;
    refused = (over, rw file (omega arith), same_faults old new goes is);
    files_stay = ap (λ (shelf : Shelved). Some shelf.files) is;
    later = omega (arith, same_faults old new goes is);
    steady = tt;
  }

  -- where memory runs out
  pub loads-nothing : Loads {A = Global} (stock_of old) (stock_of new) name limit (Err Memory)
  loads-nothing = record {
    within = tt;
    found = tt;
    refused = same_faults old new goes is;
    files_stay = ap (λ (shelf : Shelved). Some shelf.files) is;
    later = omega (arith, same_faults old new goes is);
    steady = tt;
  }

  -- where it gives the file
  pub loads-file : (bytes : Vec ℕ Global) → get old.files name ≡ Some bytes.items → length bytes.items ≤ limit → Loads (stock_of old) (stock_of new) name limit (Ok bytes)
  loads-file bytes file fits = record {
    within = fits;
    found = file;
    refused = tt;
    files_stay = ap (λ (shelf : Shelved). Some shelf.files) is;
    later = omega (arith, same_faults old new goes is);
    steady = same_faults old new goes is;
  }
