use Rattle.std.proofs.Common.{◌∙◌}
use Rattle.scott_requests.proofs.Given.{asked_as}
use Rattle.scott_requests.proofs.requests.request_in.Goals as goal

pub returns-in-check : goal.returns-in-check
returns-in-check c = record {
  value = c.check_form.ensures.value ∙ asked_as c.args.words.now c.in_ok-command.command.now
      c.in_ok-command.rest.now c.as_str.result.now c.in_ok-command.ensures.cases.0
      c.as_str.ensures.value c.in-check.is;
  sized = c.check_form.ensures.sized;
}

pub returns-in-compile : goal.returns-in-compile
returns-in-compile c = record {
  value = c.compile_form.ensures.value ∙ asked_as c.args.words.now
      c.in_ok-command.command.now c.in_ok-command.rest.now c.as_str.result.now
      c.in_ok-command.ensures.cases.0 c.as_str.ensures.value c.in-compile.is;
  sized = c.compile_form.ensures.sized;
}

pub returns-in-decompile : goal.returns-in-decompile
returns-in-decompile c = record {
  value = c.decompile_form.ensures.value
      ∙ asked_as c.args.words.now c.in_ok-command.command.now c.in_ok-command.rest.now
      c.as_str.result.now c.in_ok-command.ensures.cases.0 c.as_str.ensures.value c.in-decompile.is;
  sized = c.decompile_form.ensures.sized;
}

pub returns-in-play : goal.returns-in-play
returns-in-play c = record {
  value = c.play_form.ensures.value ∙ asked_as c.args.words.now c.in_ok-command.command.now
      c.in_ok-command.rest.now c.as_str.result.now c.in_ok-command.ensures.cases.0
      c.as_str.ensures.value c.in-play.is;
  sized = c.play_form.ensures.sized;
}

pub returns-in-translate : goal.returns-in-translate
returns-in-translate c = record {
  value = c.translate_form.ensures.value
      ∙ asked_as c.args.words.now c.in_ok-command.command.now c.in_ok-command.rest.now
      c.as_str.result.now c.in_ok-command.ensures.cases.0 c.as_str.ensures.value c.in-translate.is;
  sized = c.translate_form.ensures.sized;
}

pub returns-in-run : goal.returns-in-run
returns-in-run c = record {
  value = c.run_form.ensures.value ∙ asked_as c.args.words.now c.in_ok-command.command.now
      c.in_ok-command.rest.now c.as_str.result.now c.in_ok-command.ensures.cases.0
      c.as_str.ensures.value c.in-run.is;
  sized = c.run_form.ensures.sized;
}
