use Rattle.std.proofs.Common.{◌∙◌, map, option_map, ap}
use Rattle.inform_tree.specs.Programs.{directive_of}
use Rattle.trans_programs.proofs.Joined.{begun, handed_in}
use Rattle.trans_programs.proofs.emitting.program.Goals.{in-None+in_ok-directives-in-None, in-Some+in_ok-directives-in-Some}
use Rattle.trans_programs.proofs.emitting.program.Goals as goal

-- src/games.rt
pub returns : goal.returns
returns c = elim c.match-from.branch [
  | in-None+in_ok-directives-in-None w ↦ ap (λ ds. map directive_of ds.items) w.directives-is
      ∙ w.in_ok-directives-in-None.ensures
      ∙ begun c.args.style c.args.db.now (option_map (λ s. s.now) c.args.from) _
      (ap (option_map (λ s. s.now)) w.in-None.is) w.start-state.ensures.value
  | in-Some+in_ok-directives-in-Some w ↦ ap (λ ds. map directive_of ds.items) w.directives-is
      ∙ w.in_ok-directives-in-Some.ensures
      ∙ handed_in c.args.style c.args.db.now (option_map (λ s. s.now) c.args.from) _
      (ap (option_map (λ s. s.now)) w.in-Some.is)
]
