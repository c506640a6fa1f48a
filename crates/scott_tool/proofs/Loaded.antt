-- That what a shelf answers of one file is what is expected of its files.
use Rattle.std.proofs.Common.{◌≡◌, ◌<◌, ◌≤◌, ℕ, List, length, Option, Some, None, IfSome, Ok, Err, Bool, true, false, refl, ap, arith}
use Rattle.std.specs.Prelude.{nat_le, if◌then◌else◌, IsSomeAnd}
use Rattle.std.specs.FinMap.{get}
use Rattle.std.proofs.lemmas.Bool.Decides.{nat_tests}
use Rattle.adv_io.specs.Shelf.{Files, IsFile, HasAtLeast, Lacks}
use Rattle.scott_tool.specs.Refusal.{unread, too_long}
use Rattle.scott_tool.specs.Loading.{Load, within_limit, loaded}
use Rattle.scott_tool.proofs.Files.{loaded-there}

-- bytes within the limit
pub file-found : (known : Option Files) (load : Load) (bytes : List ℕ)
    → IsFile known load.name bytes → length bytes ≤ load.limit
    → IfSome known (λ files. loaded files (Some load) ≡ Ok bytes)
file-found None load bytes is within = tt
file-found (Some files) load bytes is within = loaded-there files load bytes (is, within)

-- no file of this name
pub file-absent : (known : Option Files) (load : Load) → Lacks known load.name → IfSome known
    (λ files. loaded files (Some load) ≡ Err (unread load.name))
file-absent None load lacks = tt
file-absent (Some files) load lacks = ap (within_limit load) lacks

module _ (load : Load) (n : ℕ) (more : load.limit < n) where
  by_test : (bytes : List ℕ) → n ≤ length bytes → (b : Bool) → nat_le (length bytes) load.limit ≡ b
      → (if b then Ok bytes else Err (too_long load.name load.limit)) ≡ Err
      (too_long load.name load.limit)
  by_test bytes has true e = absurd (grind (arith, nat_tests, e))
  by_test bytes has false e = refl

  by_file : (file : Option (List ℕ)) → IsSomeAnd file (λ bytes. n ≤ length bytes)
      → within_limit load file ≡ Err (too_long load.name load.limit)
  by_file None has = absurd has
  by_file (Some bytes) has = by_test bytes has (nat_le (length bytes) load.limit) refl

  -- a file past the limit
  pub file-long : (known : Option Files) → HasAtLeast known load.name n → IfSome known
      (λ files. loaded files (Some load) ≡ Err (too_long load.name load.limit))
  file-long None has = tt
  file-long (Some files) has = by_file (get files load.name) has
