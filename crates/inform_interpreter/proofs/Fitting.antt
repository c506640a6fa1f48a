-- That what waits fits.
use Rattle.std.proofs.Common.{◌≡◌, ◌∙◌, ℕ, ◌+◌, ◌≤◌, List, [], ◌∷◌, ◌++◌, reverse, Option, Some, None, sym, ap, subst, arith, append_assoc}
use Rattle.std.specs.Prelude.{IfSome}
use Rattle.inform_meaning.specs.Worlds.{World}
use Rattle.inform_meaning.specs.Frames as f
use Rattle.inform_meaning.specs.Frames.{Frame, Begins, Wants, Decides, Looping, Calling, Main, Over, Outcome}
use Rattle.inform_moves.specs.Heights.{height, standing, Fits}
use Rattle.inform_moves.specs.Readiness.{IsDry, AreDry, HasRoom, IsReady}
use Rattle.inform_worlds.specs.Views.{world_of}
use Rattle.inform_frames.specs.Stacks.{stack_of}
use Rattle.inform_interpreter.specs.declared.interpreters.Interpreter.{Interpreter}
use Rattle.inform_interpreter.specs.Interpreters.{waiting_in}
use Rattle.inform_interpreter.specs.Doing.{WaitsFit}

-- ---- what is ready for a line

pub dry-room : (w : World) (x : Frame) → IsDry x → HasRoom w x
dry-room w (Begins (f.LineDue name)) h = absurd h
dry-room w (Begins (f.Evals x)) h = tt
dry-room w (Begins (f.CallDue name values)) h = tt
dry-room w (Begins (f.DrawDue n)) h = tt
dry-room w (Begins (f.Tests x)) h = tt
dry-room w (Begins (f.Alters x)) h = tt
dry-room w (Begins (f.Due x)) h = tt
dry-room w (Begins (f.Blocks xs)) h = tt
dry-room w (Begins (f.Prints xs)) h = tt
dry-room w (Begins (f.TurnDue l)) h = tt
dry-room w (Wants x) h = tt
dry-room w (Decides x) h = tt
dry-room w (Looping l) h = tt
dry-room w (Calling scope) h = tt
dry-room w Main h = tt
dry-room w (Over halt) h = tt

pub dry-ready : (w : World) (fs : List Frame) → AreDry fs → IsReady w fs
dry-ready w [] h = tt
dry-ready w (x ∷ fs) h = (dry-room w x h.0, h.1)

dry-append : (xs ys : List Frame) → AreDry xs → AreDry ys → AreDry (xs ++ ys)
dry-append [] ys h k = k
dry-append (x ∷ xs) ys h k = (h.0, dry-append xs ys h.1 k)

pub ready-append : (w : World) (xs ys : List Frame) → IsReady w xs → AreDry ys
    → IsReady w (xs ++ ys)
ready-append w [] ys h k = dry-ready w ys k
ready-append w (x ∷ xs) ys h k = (h.0, dry-append xs ys h.1 k)

-- ---- what waits

one-more : (x : Frame) (rest : List Frame) → standing (x ∷ rest) ≤ standing rest + 1
one-more (Begins x) rest = omega arith
one-more (Wants x) rest = omega arith
one-more (Decides x) rest = omega arith
one-more (Looping x) rest = omega arith
one-more (Calling x) rest = omega arith
one-more Main rest = omega arith
one-more (Over x) rest = omega arith

-- nothing does
pub fits-idle : (n : ℕ) (i : Interpreter) → stack_of i.waiting ≡ [] → WaitsFit n i
fits-idle n i idle = record {
  within = λ rest fits few. subst (λ fs. Fits (reverse fs ++ rest)) (sym idle) fits;
  ready = subst (λ fs. IsReady (world_of i.world) (reverse fs)) (sym idle) tt;
}

pub fits-more : {n h : ℕ} (i : Interpreter) (e : Option Outcome) → n ≤ h
    → IfSome e (λ e. WaitsFit n i) → IfSome e (λ e. WaitsFit h i)
fits-more i None le w = tt
fits-more i (Some e) le w = record {
  within = λ rest fits few. w.within rest fits (omega (arith, le, few));
  ready = w.ready;
}

-- one frame does
pub fits-alone : (h : ℕ) (x : Frame) (i : Interpreter) → stack_of i.waiting ≡ x ∷ []
    → height x ≤ h → HasRoom (world_of i.world) x → WaitsFit h i
fits-alone h x i waiting high room = record {
  within = λ rest fits few.
      subst (λ fs. Fits (reverse fs ++ rest)) (sym waiting) (omega (arith, high, few), fits);
  ready = subst (λ fs. IsReady (world_of i.world) (reverse fs)) (sym waiting) (room, tt);
}

-- one frame more does
pub fits-joined : (n h : ℕ) (x : Frame) (mid new : Interpreter) → new.world ≡ mid.world → IsDry x
    → height x ≤ h → n + 1 ≤ h → waiting_in new ≡ waiting_in mid ++ x ∷ [] → WaitsFit n mid
    → WaitsFit h new
fits-joined n h x mid new world dry high more is w = record {
  within = λ rest fits few.
      subst Fits (sym (ap (λ fs. fs ++ rest) is ∙ append_assoc (waiting_in mid) (x ∷ []) rest))
      (w.within (x ∷ rest) (omega (arith, high, few), fits)
      (omega (arith, more, few, one-more x rest)));
  ready = subst (λ fs. IsReady (world_of new.world) fs) (sym is)
      (subst (λ w. IsReady (world_of w) (waiting_in mid ++ x ∷ [])) (sym world)
      (ready-append (world_of mid.world) (waiting_in mid) (x ∷ []) w.ready (dry, tt)));
}
