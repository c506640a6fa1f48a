-- What the loading of a request says of its files.
use Rattle.std.proofs.Common.{◌≡◌, ◌∙◌, ◌<◌, ◌≤◌, ℕ, List, length, Option, Some, None, Result, Ok, Err, Bool, true, false, refl, ap, inl, inr, ◌⊎◌, arith}
use Rattle.std.specs.Prelude.{nat_le, if◌then◌else◌}
use Rattle.std.specs.FinMap.{get}
use Rattle.std.proofs.lemmas.Bool.Decides.{nat_tests}
use Rattle.adv_io.specs.Shelf.{Files}
use Rattle.scott_requests.specs.Request.{Request}
use Rattle.scott_tool.specs.Steps.{◌>>=◌}
use Rattle.scott_tool.specs.Refusal.{Refusal, unread, too_long}
use Rattle.scott_tool.specs.Loading.{Load, main_of, draws_of, position_of, IsLoad, within_limit, loaded, Texts, later_texts_of, texts_of}
use Rattle.scott_tool.specs.Causes.{IsTooLong, IsLoadable}

-- ---- steps

pub bind-ok : {X Y E : Type 0} (r : Result X E) (next : X → Result Y E) (y : Y) → (r >>= next)
    ≡ Ok y → (x : X) × (r ≡ Ok x) × (next x ≡ Ok y)
bind-ok (Ok x) next y e = (x, refl, e)
bind-ok (Err refusal) next y e = absurd cc

pub bind-err : {X Y E : Type 0} (r : Result X E) (next : X → Result Y E) (refusal : E) →
    (r >>= next) ≡ Err refusal
    → (r ≡ Err refusal) ⊎ ((x : X) × (r ≡ Ok x) × (next x ≡ Err refusal))
bind-err (Ok x) next refusal e = inr (x, refl, e)
bind-err (Err other) next refusal e = let same : other ≡ refusal = cc in inl (ap Err same)

-- ---- one file

data Loading (load : Load) (file : Option (List ℕ)) (got : Result (List ℕ) Refusal) : Type 0 where
  absent : file ≡ None → got ≡ Err (unread load.name) → Loading load file got
  long : (bytes : List ℕ) → file ≡ Some bytes → load.limit < length bytes → got ≡ Err
      (too_long load.name load.limit) → Loading load file got
  there : (bytes : List ℕ) → file ≡ Some bytes → got ≡ Ok bytes → Loading load file got

by_length : (load : Load) (bytes : List ℕ) (b : Bool) → nat_le (length bytes) load.limit ≡ b
    → Loading load (Some bytes) (if b then Ok bytes else Err (too_long load.name load.limit))
by_length load bytes true e = there bytes refl refl
by_length load bytes false e = long bytes refl (grind (arith, nat_tests, e)) refl

loading : (load : Load) (file : Option (List ℕ)) → Loading load file (within_limit load file)
loading load None = absent refl refl
loading load (Some bytes) = by_length load bytes (nat_le (length bytes) load.limit) refl

same_ok : {X E : Type 0} (r : Result X E) (x y : X) → r ≡ Ok x → r ≡ Ok y → x ≡ y
same_ok r x y e f = cc

ok_or_err : {X E : Type 0} (r : Result X E) (x : X) (refusal : E) → r ≡ Ok x → r ≡ Err refusal → ⊥
ok_or_err r x refusal e f = cc

-- a file that was loaded is there
pub there-loaded : (files : Files) (load : Load) (bytes : List ℕ) → loaded files (Some load)
    ≡ Ok bytes → get files load.name ≡ Some bytes
there-loaded files load bytes e = by (loading load (get files load.name))
  where
    by : Loading load (get files load.name) (loaded files (Some load)) → get files load.name
        ≡ Some bytes
    by (absent none g) = absurd (ok_or_err (loaded files (Some load)) bytes _ e g)
    by (long other has more g) = absurd (ok_or_err (loaded files (Some load)) bytes _ e g)
    by (there other has g) = has ∙ ap Some (same_ok (loaded files (Some load)) other bytes g e)

-- a file that is there and within its limit is loaded
pub loaded-there : (files : Files) (load : Load) (bytes : List ℕ) → IsLoadable files load bytes
    → loaded files (Some load) ≡ Ok bytes
loaded-there files load bytes h =
    ap (λ file. within_limit load file) h.0 ∙ within (nat_le (length bytes) load.limit) refl
  where
    within : (b : Bool) → nat_le (length bytes) load.limit ≡ b →
        (if b then Ok bytes else Err (too_long load.name load.limit)) ≡ Ok bytes
    within true e = refl
    within false e = absurd (let less : length bytes ≤ load.limit = h.1 in grind
        (arith, nat_tests, e))

-- ---- the files of a request

abbrev with_position : Files → Request → List ℕ → Result (List ℕ × List ℕ) Refusal
with_position files request draws = loaded files (position_of request) >>= λ position. Ok
    (draws, position)

abbrev with_later : Files → Request → List ℕ → Result Texts Refusal
with_later files request main = later_texts_of files request >>= λ later. Ok
    (record { main = main; draws = later.0; position = later.1 })

same_value : {X E : Type 0} (x y : X) → (let r : Result X E = Ok x in r ≡ Ok y) → x ≡ y
same_value x y e = cc

-- the draws and the position that were loaded
later-loaded : (files : Files) (request : Request) (later : List ℕ × List ℕ)
    → later_texts_of files request ≡ Ok later → (loaded files (draws_of request) ≡ Ok later.0)
    × (loaded files (position_of request) ≡ Ok later.1)
later-loaded files request later e =
    let d = bind-ok (loaded files (draws_of request)) (with_position files request) later e in
    let p = bind-ok (loaded files (position_of request)) (λ position. Ok (d.0, position)) later d.2
    in
    let same = same_value (d.0, p.0) later p.2 in
    (d.1 ∙ ap (λ t. Ok t.0) same, p.1 ∙ ap (λ t. Ok t.1) same)

-- what was loaded, file by file
pub record AreLoaded (files : Files) (request : Request) (texts : Texts) : Type 0 where
  pub main : loaded files (main_of request) ≡ Ok texts.main
  pub draws : loaded files (draws_of request) ≡ Ok texts.draws
  pub position : loaded files (position_of request) ≡ Ok texts.position

-- where all that a request loads was loaded, so was each of its files
pub texts-loaded : (files : Files) (request : Request) (texts : Texts) → texts_of files request
    ≡ Ok texts → AreLoaded files request texts
texts-loaded files request texts e =
    let m = bind-ok (loaded files (main_of request)) (with_later files request) texts e in
    let l = bind-ok (later_texts_of files request) (λ later. Ok
    (record { main = m.0; draws = later.0; position = later.1 })) texts m.2 in
    let each = later-loaded files request l.0 l.1 in
    let same = same_value (record { main = m.0; draws = l.0.0; position = l.0.1 }) texts l.2 in
    record {
      main = m.1 ∙ ap (λ t. Ok t.main) same;
      draws = each.0 ∙ ap (λ t. Ok t.draws) same;
      position = each.1 ∙ ap (λ t. Ok t.position) same;
    }

-- a file that is refused as too long is
long_file : (files : Files) (asked : Option Load) (name : List ℕ) (limit : ℕ) → loaded files asked
    ≡ Err (too_long name limit)
    → (load : Load) × (asked ≡ Some load) × IsTooLong files load
long_file files None name limit e = absurd cc
long_file files (Some load) name limit e = by (loading load (get files load.name))
  where
    by : Loading load (get files load.name) (loaded files (Some load)) → (other : Load) ×
        (Some load ≡ Some other) × IsTooLong files other
    by (absent none g) = absurd cc
    by (long bytes has more g) = (load, refl, (bytes, has, more))
    by (there bytes has g) = absurd (ok_or_err (loaded files (Some load)) bytes _ g e)

-- where the draws or the position are refused as too long, a file of the request is too long
long_later : (files : Files) (request : Request) (name : List ℕ) (limit : ℕ)
    → later_texts_of files request ≡ Err (too_long name limit)
    → (load : Load) × IsLoad request load × IsTooLong files load
long_later files request name limit e =
    elim (bind-err (loaded files (draws_of request)) (with_position files request)
    (too_long name limit) e) [
      | inl d ↦ (let l = long_file files (draws_of request) name limit d in
          (l.0, inr (inl l.1), l.2))
      | inr d ↦
          elim (bind-err (loaded files (position_of request)) (λ position. Ok (d.0, position))
          (too_long name limit) d.2) [
            | inl p ↦ (let l = long_file files (position_of request) name limit p in
                (l.0, inr (inr l.1), l.2))
            | inr p ↦ absurd (let f = p.2 in cc)
          ]
    ]

-- where a request is refused for a file that is too long, one of its files is
pub long_one : (files : Files) (request : Request) (name : List ℕ) (limit : ℕ)
    → texts_of files request ≡ Err (too_long name limit)
    → (load : Load) × IsLoad request load × IsTooLong files load
long_one files request name limit e =
    elim (bind-err (loaded files (main_of request)) (with_later files request)
    (too_long name limit) e) [
      | inl m ↦ (let l = long_file files (main_of request) name limit m in (l.0, inl l.1, l.2))
      | inr m ↦
          elim (bind-err (later_texts_of files request)
          (λ later. Ok (record { main = m.0; draws = later.0; position = later.1 }))
          (too_long name limit) m.2) [
            | inl l ↦ long_later files request name limit l
            | inr l ↦ absurd (let f = l.2 in cc)
          ]
    ]
