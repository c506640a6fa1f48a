-- How a part of a program leads to its outcome, or to what is left of it.
use Rattle.std.specs.Prelude.{ℕ, ◌≡◌, ◌+◌, ◌<◌, Bool, true, List, [], ◌∷◌, ◌++◌, ⊤}
use Rattle.adv_io.specs.Steps.{Step}
use Rattle.inform_meaning.specs.Worlds.{World, Config}
use Rattle.inform_meaning.specs.Frames.{Begins, CallDue, Frame, Spent, Outcome, Waits, Meaning, gives}

-- the world, and the lines and draws that are left
pub record Place : Type 0 where
  pub world : World
  pub lines : List (List ℕ)
  pub draws : List ℕ

abbrev pub config_at : Place → ℕ → List Step → Config
config_at at steps past = record {
  steps = steps;
  lines = at.lines;
  draws = at.draws;
  past = past;
  world = at.world;
}

-- what waits for a step has none, and else any number may be left
abbrev pub MayBeLeft : Outcome → ℕ → Type 0
MayBeLeft (Waits Spent frames) more = more ≡ 0
MayBeLeft e more = ⊤

-- any number may be left
abbrev pub Anything : ℕ → Type 0
Anything more = ⊤

-- no call is due for this frame
abbrev pub IsNoCall : Frame → Type 0
IsNoCall (Begins (CallDue name values)) = ⊥
IsNoCall x = ⊤

-- none is due for the innermost of these, and there is one
abbrev pub NoCallIsDue : List Frame → Type 0
NoCallIsDue [] = ⊥
NoCallIsDue (x ∷ frames) = IsNoCall x

-- it waits, and not for a call
abbrev pub IsQuiet : Outcome → Type 0
IsQuiet (Waits lack frames) = NoCallIsDue frames
IsQuiet e = ⊥

-- With so many steps, and any that may be left, a part does this, and then what another one does
-- with those that are left. With fewer it waits, and where that is asked for, never for a call.
pub record Leads (quietly : Bool) (may_be_left : ℕ → Type 0) (part rest : Meaning) (old new : Place)
    (used : ℕ) (done : List Step) : Type 0 where
  pub same : (more : ℕ) (past : List Step) → may_be_left more
      → part (config_at old (used + more) past) ≡ rest (config_at new more (past ++ done))
  pub quiet : quietly ≡ true → (n : ℕ) (past : List Step) → n < used
      → IsQuiet (part (config_at old n past)).0

-- it leads to this outcome
abbrev pub LeadsTo : Bool → Meaning → Outcome → Place → Place → ℕ → List Step → Type 0
LeadsTo quietly part e old new used done =
    Leads quietly (MayBeLeft e) part (gives e) old new used done
