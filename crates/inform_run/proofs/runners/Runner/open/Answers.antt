use Rattle.std.proofs.Common.{◌≡◌, ◌∙◌, ◌≤◌, ◌∷◌, [], length, sym, ap, subst, arith}
use Rattle.inform_tree.specs.Statements.{statements_of}
use Rattle.inform_tree.specs.Programs.{routine_of}
use Rattle.inform_names.specs.Views.{directives_of}
use Rattle.inform_meaning.specs.Frames as f
use Rattle.inform_meaning.specs.Runs.{CALL_LIMIT}
use Rattle.inform_moves.specs.Heights.{Fits, calls_open}
use Rattle.inform_moves.specs.Readiness.{IsReady}
use Rattle.inform_frames.specs.Stacks.{stack_of}
use Rattle.inform_worlds.specs.Views.{world_of}
use Rattle.inform_run.proofs.Beginning.{main-fits}
use Rattle.inform_run.proofs.runners.Runner.open.Goals as goal

pub invariant_of-result : goal.invariant_of-result
invariant_of-result c =
    let a = c.names.result.now.accepted.now in
    let body = statements_of c.main.result.1.now.body.items in
    let w = world_of c.in_ok-interpreter.interpreter.world in
    let begun : stack_of c.push-2.new.self ≡ f.Begins (f.Blocks body) ∷ f.Main ∷ [] =
    c.push-2.ensures
    ∙ ap (λ xs. f.Begins (f.Blocks (statements_of xs)) ∷ stack_of c.push.new.self) c.deref.ensures.value
    ∙ ap (λ fs. f.Begins (f.Blocks body) ∷ fs) (c.push.ensures ∙ ap (λ fs. f.Main ∷ fs) c.in_ok-stack.ensures) in
    record {
      fit = (
        subst Fits (sym begun) (main-fits body (c.routines_are_shallow.ensures a.width (directives_of a) c.main.result.0 (routine_of c.main.result.1.now) a.accepted c.main.ensures.directive)),
        (
          subst (λ fs. calls_open fs ≤ CALL_LIMIT) (sym begun) (omega arith),
          (subst (IsReady w) (sym begun) (tt, (tt, tt)), omega (arith, ap length c.in_ok-interpreter.ensures.idle)),
        ),
      );
    }
