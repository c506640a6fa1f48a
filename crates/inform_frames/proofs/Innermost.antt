-- Frames on a stack: the last one is the innermost, and the last scope is that of the innermost
-- caller.
use Rattle.std.proofs.Common.{◌≡◌, ◌∙◌, ℕ, zero, suc, ◌+◌, ◌-◌, List, [], ◌∷◌, ◌++◌, length, take, get_or, refl, sym, ap, subst, arith, length-append, length-take-le}
use Rattle.std.proofs.lemmas.List.{length_push}
use Rattle.inform_meaning.specs.Frames as f
use Rattle.inform_meaning.specs.Worlds.{Scope as WScope}
use Rattle.inform_moves.specs.Heights.{calls_open}
use Rattle.inform_worlds.specs.declared.scopes.Scope.{Scope}
use Rattle.inform_worlds.specs.Scopes.{scope_of}
use Rattle.inform_frames.specs.declared.frames.Frame.{Frame}
use Rattle.inform_frames.specs.declared.frames.Frame.TheVariants as x
use Rattle.inform_frames.specs.Frames.{frame_of, frame_in, IsPlain, IsCaller, caller_of, callers_in, scope_in, scopes_after, frames_of, top_of, rest_of}

-- the scopes of the callers after these frames
abbrev pub scopes_past : List Frame → List Scope → List Scope
scopes_past [] scopes = scopes
scopes_past (x ∷ xs) scopes = scopes_past xs (scopes_after x scopes)

-- a frame that is put at the end is the innermost
pub frames-push : (xs : List Frame) (y : Frame) (scopes : List Scope)
    → frames_of (xs ++ y ∷ []) scopes ≡ frame_in (scope_in (scopes_past xs scopes)) y ∷ frames_of xs scopes
frames-push [] y scopes = refl
frames-push (x ∷ xs) y scopes = ap (λ fs. fs ++ frame_in (scope_in scopes) x ∷ []) (frames-push xs y (scopes_after x scopes))

-- as many scopes as callers are enough
pub frames-more : (xs : List Frame) (scopes more : List Scope) → callers_in xs ≡ length scopes
    → frames_of xs (scopes ++ more) ≡ frames_of xs scopes
frames-more [] scopes more is = refl
frames-more (x.Calling ∷ xs) [] more is = absurd (omega (arith, is))
frames-more (x.Calling ∷ xs) (s ∷ scopes) more is =
    ap (λ fs. fs ++ f.Calling (scope_of s) ∷ []) (frames-more xs scopes more (omega (arith, is)))
frames-more (x ∷ xs) scopes more is = ap (λ fs. fs ++ frame_of x ∷ []) (frames-more xs scopes more is)

pub past-more : (xs : List Frame) (scopes more : List Scope) → callers_in xs ≡ length scopes
    → scopes_past xs (scopes ++ more) ≡ more
past-more [] [] more is = refl
past-more [] (s ∷ scopes) more is = absurd (omega (arith, is))
past-more (x.Calling ∷ xs) [] more is = absurd (omega (arith, is))
past-more (x.Calling ∷ xs) (s ∷ scopes) more is = past-more xs scopes more (omega (arith, is))
past-more (x ∷ xs) scopes more is = past-more xs scopes more is

pub frame-plain : (scope : WScope) (x : Frame) → IsPlain x → frame_in scope x ≡ frame_of x
frame-plain scope x.Calling plain = absurd plain
frame-plain scope x plain = refl

-- a frame without a caller, and one with its scope
pub plain-push : (xs : List Frame) (y : Frame) (scopes : List Scope) → IsPlain y
    → frames_of (xs ++ y ∷ []) scopes ≡ frame_of y ∷ frames_of xs scopes
plain-push xs y scopes plain =
    frames-push xs y scopes
    ∙ ap (λ x. x ∷ frames_of xs scopes) (frame-plain (scope_in (scopes_past xs scopes)) y plain)

pub caller-push : (xs : List Frame) (scopes : List Scope) (scope : Scope) → callers_in xs ≡ length scopes
    → frames_of (xs ++ x.Calling ∷ []) (scopes ++ scope ∷ []) ≡ f.Calling (scope_of scope) ∷ frames_of xs scopes
caller-push xs scopes scope is =
    frames-push xs x.Calling (scopes ++ scope ∷ [])
    ∙ ap (λ ss. f.Calling (scope_in ss) ∷ frames_of xs (scopes ++ scope ∷ [])) (past-more xs scopes (scope ∷ []) is)
    ∙ ap (λ fs. f.Calling (scope_of scope) ∷ fs) (frames-more xs scopes (scope ∷ []) is)

pub callers-append : (xs ys : List Frame) → callers_in (xs ++ ys) ≡ callers_in xs + callers_in ys
callers-append [] ys = omega arith
callers-append (x.Calling ∷ xs) ys = omega (arith, callers-append xs ys)
callers-append (x ∷ xs) ys = callers-append xs ys

pub callers-plain : (xs : List Frame) (y : Frame) → IsPlain y → callers_in (xs ++ y ∷ []) ≡ callers_in xs
callers-plain xs y plain = omega (arith, callers-append xs (y ∷ []), none y plain) where
  none : (y : Frame) → IsPlain y → callers_in (y ∷ []) ≡ 0
  none x.Calling plain = absurd plain
  none x plain = refl

pub frames-length : (xs : List Frame) (scopes : List Scope) → length (frames_of xs scopes) ≡ length xs
frames-length [] scopes = refl
frames-length (x ∷ xs) scopes =
    length-append (frames_of xs (scopes_after x scopes)) (frame_in (scope_in scopes) x ∷ [])
    ∙ omega (arith, frames-length xs (scopes_after x scopes))

-- calls are counted frame by frame
pub calls-first : (x : f.Frame) (xs : List f.Frame) → calls_open (x ∷ xs) ≡ calls_open (x ∷ []) + calls_open xs
calls-first (f.Calling scope) xs = omega arith
calls-first x xs = omega arith

pub calls-append : (xs ys : List f.Frame) → calls_open (xs ++ ys) ≡ calls_open xs + calls_open ys
calls-append [] ys = omega arith
calls-append (x ∷ xs) ys =
    omega (arith, calls-first x (xs ++ ys), calls-first x xs, calls-append xs ys)

-- a call is open for each caller
pub calls-are : (xs : List Frame) (scopes : List Scope) → calls_open (frames_of xs scopes) ≡ callers_in xs
calls-are [] scopes = refl
calls-are (x.Calling ∷ xs) scopes =
    calls-append (frames_of xs (scopes_after x.Calling scopes)) (f.Calling (scope_in scopes) ∷ [])
    ∙ omega (arith, calls-are xs (scopes_after x.Calling scopes))
calls-are (x ∷ xs) scopes =
    calls-append (frames_of xs scopes) (frame_of x ∷ []) ∙ omega (arith, calls-are xs scopes)

-- ---- the last ones

last : {X : Type 0} (xs : List X) (n : ℕ) (d : X) → length xs ≡ suc n → xs ≡ take n xs ++ get_or xs n d ∷ []
last [] n d is = absurd (omega (arith, is))
last (x ∷ []) zero d is = refl
last (x ∷ []) (suc n) d is = absurd (omega (arith, is))
last (x ∷ (y ∷ ys)) zero d is = absurd (omega (arith, is))
last (x ∷ (y ∷ ys)) (suc n) d is = ap (λ zs. x ∷ zs) (last (y ∷ ys) n d (omega (arith, is)))

frames-last : (xs : List Frame) (n : ℕ) (d : Frame) (scopes : List Scope) → length xs ≡ suc n
    → frames_of xs scopes ≡ frame_in (scope_in (scopes_past (take n xs) scopes)) (get_or xs n d) ∷ frames_of (take n xs) scopes
frames-last xs n d scopes is =
    ap (λ ys. frames_of ys scopes) (last xs n d is) ∙ frames-push (take n xs) (get_or xs n d) scopes

caller-frame : (scope : WScope) (x : Frame) → IsCaller (frame_in scope x) → frame_in scope x ≡ f.Calling scope
caller-frame scope x.Calling is = refl
caller-frame scope x is = absurd is

caller-own : (scope : WScope) (x : Frame) → frame_in scope x ≡ frame_in (caller_of (frame_in scope x)) x
caller-own scope x.Calling = refl
caller-own scope x = refl

-- the innermost frame is the last one
pub frames-top : (xs : List Frame) (n : ℕ) (d : Frame) (scopes : List Scope) → length xs ≡ suc n
    → frames_of xs scopes ≡ frame_in (caller_of (top_of (frames_of xs scopes))) (get_or xs n d) ∷ rest_of (frames_of xs scopes)
frames-top xs n d scopes is =
    let scope = scope_in (scopes_past (take n xs) scopes) in
    let here = frames-last xs n d scopes is in
    here
    ∙ ap (λ x. x ∷ frames_of (take n xs) scopes) (caller-own scope (get_or xs n d))
    ∙ ap (λ x. frame_in (caller_of x) (get_or xs n d) ∷ frames_of (take n xs) scopes) (sym (ap top_of here))
    ∙ ap (λ fs. frame_in (caller_of (top_of (frames_of xs scopes))) (get_or xs n d) ∷ fs) (sym (ap rest_of here))

module _ (xs : List Frame) (n : ℕ) (scopes : List Scope) (top : f.Frame)
    (is : frames_of xs scopes ≡ top ∷ rest_of (frames_of xs scopes)) (size : n ≡ length xs - 1) where
  some : length xs ≡ suc n
  some = omega (arith, frames-length xs scopes, ap length is, size)

  -- the others are those before the last one
  pub frames-rest : frames_of (take n xs) scopes ≡ rest_of (frames_of xs scopes)
  frames-rest = sym (ap rest_of (frames-last xs n x.Main scopes some))

  pub callers-rest : callers_in xs ≡ callers_in (take n xs) + calls_open (top ∷ [])
  callers-rest = omega (
    arith,
    calls-are xs scopes,
    ap calls_open is,
    calls-first top (rest_of (frames_of xs scopes)),
    ap calls_open frames-rest,
    calls-are (take n xs) scopes,
  )

  -- where a caller waited in it, the last scope goes with it
  pub callers-fewer : (m : ℕ) → calls_open (top ∷ []) ≡ 1 → callers_in xs ≡ length scopes → m ≡ length scopes - 1
      → callers_in (take n xs) ≡ length (take m scopes)
  callers-fewer m one paired fewer =
      omega (arith, callers-rest, one, paired, fewer, length-take-le m scopes (omega (arith, fewer)))

pub caller-opens : (fs : List f.Frame) → IsCaller (top_of fs) → fs ≡ top_of fs ∷ rest_of fs
caller-opens [] is = absurd is
caller-opens (x ∷ fs) is = refl

pub caller-open : (x : f.Frame) → IsCaller x → calls_open (x ∷ []) ≡ 1
caller-open (f.Calling scope) is = refl
caller-open x is = absurd is

pub plain-open : (scope : WScope) (y : Frame) → ¬ (y ≡ x.Calling) → calls_open (frame_in scope y ∷ []) ≡ 0
plain-open scope x.Calling plain = absurd (plain refl)
plain-open scope y plain = refl

-- the scope of the innermost caller is the last one
pub caller-last : (xs : List Frame) (scopes : List Scope) (m : ℕ) (d : Scope) → callers_in xs ≡ length scopes
    → IsCaller (top_of (frames_of xs scopes)) → length scopes ≡ suc m
    → top_of (frames_of xs scopes) ≡ f.Calling (scope_of (get_or scopes m d))
caller-last xs scopes m d paired caller size =
    let fs = frames_of xs scopes in
    let n = length xs - 1 in
    let is = caller-opens fs caller in
    let ys = take n xs in
    let scope = scope_in (scopes_past ys scopes) in
    let here = frames-last xs n x.Main scopes (some xs n scopes (top_of fs) is refl) in
    let split = last scopes m d size in
    let few : callers_in ys ≡ length (take m scopes) =
    omega (arith, callers-rest xs n scopes (top_of fs) is refl, caller-open (top_of fs) caller, paired, ap length split, length_push (take m scopes) (get_or scopes m d)) in
    ap top_of here
    ∙ caller-frame scope (get_or xs n x.Main) (subst IsCaller (ap top_of here) caller)
    ∙ ap (λ ss. f.Calling (scope_in ss)) (ap (scopes_past ys) split ∙ past-more ys (take m scopes) (get_or scopes m d ∷ []) few)
