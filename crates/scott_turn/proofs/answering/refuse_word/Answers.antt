use Rattle.std.proofs.Common.{◌≡◌, ◌++◌, [], append_assoc}
use Rattle.std.proofs.lemmas.List.{append-nil}
use Rattle.std.proofs.lemmas.Result.{err_from_is_err_and}
use Rattle.scott_types.specs.declared.phrases.Phrase.TheVariants.{Prompt}
use Rattle.scott_types.specs.Phrase.{text_of}
use Rattle.scott_rules.specs.Rounds.{unknown_word}
use Rattle.adv_io.proofs.Along.{as_ok, as_err}
use Rattle.scott_turn.proofs.answering.refuse_word.Goals as goal

pub returns-clause-spoken : goal.returns-clause-spoken
returns-clause-spoken g c =
    let pieces : c.text-opening.result.now ++ (c.args.word.now ++ (c.text-back.result.now ++ (c.text-prompt.result.now ++ []))) ≡ unknown_word c.args.word.now ++ text_of Prompt =
    rw (c.text-opening.ensures, c.text-back.ensures, c.text-prompt.ensures) (simp (append_assoc, append-nil)) in
    as_ok _ (rw pieces at c.in_ok-say_all.ensures)

pub returns-in_err-say_all-clause-spoken : goal.returns-in_err-say_all-clause-spoken
returns-in_err-say_all-clause-spoken g c =
    let pieces : c.text-opening.result.now ++ (c.args.word.now ++ (c.text-back.result.now ++ (c.text-prompt.result.now ++ []))) ≡ unknown_word c.args.word.now ++ text_of Prompt =
    rw (c.text-opening.ensures, c.text-back.ensures, c.text-prompt.ensures) (simp (append_assoc, append-nil)) in
    let p = err_from_is_err_and c.from_residual.result c.from_residual.ensures.1 in
    rw (p.1) (as_err p.0 (rw pieces at c.in_err-say_all.ensures))
