-- Requests and settings as the program holds them.
use Rattle.std.specs.Prelude.{option_map}
use Rattle.std.specs.Option.{option_copied}
use Rattle.scott_requests.specs.declared.settings.DrawSource.{DrawSource as HeldSource}
use Rattle.scott_requests.specs.declared.settings.DrawSource.TheVariants.{Listed, Seeded}
use Rattle.scott_requests.specs.declared.settings.Pause.{Pause as HeldPause}
use Rattle.scott_requests.specs.declared.settings.Pause.TheVariants.{At, Every}
use Rattle.scott_requests.specs.declared.settings.Setting.{Setting as HeldSetting}
use Rattle.scott_requests.specs.declared.settings.Setting.TheVariants.{Draws, Style as StyleSetting, From, Save, Pauses, Steps, Words}
use Rattle.scott_requests.specs.declared.settings.Settings.{Settings as HeldSettings}
use Rattle.scott_requests.specs.declared.requests.PlayRequest.{PlayRequest as HeldPlay}
use Rattle.scott_requests.specs.declared.requests.TranslationRequest.{TranslationRequest as HeldTranslation}
use Rattle.scott_requests.specs.declared.requests.RunRequest.{RunRequest as HeldRun}
use Rattle.scott_requests.specs.declared.requests.TransferRequest.{TransferRequest as HeldTransfer}
use Rattle.scott_requests.specs.declared.requests.CoverRequest.{CoverRequest as HeldCover}
use Rattle.scott_requests.specs.declared.requests.StepRequest.{StepRequest as HeldStep}
use Rattle.scott_requests.specs.declared.requests.Request.{Request as HeldRequest}
use Rattle.scott_requests.specs.declared.requests.Request.TheVariants.{Check, Compile, Decompile, Play, Translate, Run, Hall, Transfer, Simplify, Step, Cover, Calls, Demo}
use Rattle.scott_requests.specs.Settings.{DrawSource, listed, seeded, Pause, entering, each, Setting, draws, style, opening, saving, pausing, most_steps, word_width, Settings}
use Rattle.scott_requests.specs.Request.{PlayRequest, TranslationRequest, RunRequest, StepRequest, TransferRequest, CoverRequest, Request, check, compile, decompile, play, translate, run, hall, transfer, SimplifyRequest, simplify, step, cover, calls, demo}
use Rattle.scott_requests.specs.declared.requests.SimplifyRequest.{SimplifyRequest as HeldSimplification}

abbrev pub source_of : HeldSource → DrawSource
source_of (Listed name) = listed name.now
source_of (Seeded seed) = seeded seed

abbrev pub pause_of : HeldPause → Pause
pause_of (At name) = entering name.now
pause_of (Every number) = each number

abbrev pub setting_of : HeldSetting → Setting
setting_of (Draws source) = draws (source_of source)
setting_of (StyleSetting value) = style value
setting_of (From name) = opening name.now
setting_of (Save name) = saving name.now
setting_of (Pauses pause) = pausing (pause_of pause)
setting_of (Steps n) = most_steps n
setting_of (Words width) = word_width width

abbrev pub settings_of : HeldSettings → Settings
settings_of settings =
    record {
      source = option_map source_of settings.draws;
      play_style = settings.style;
      opened_from = option_copied settings.from;
      saved_as = option_copied settings.save;
      pause = option_map pause_of settings.pause;
      steps = settings.steps;
      width = settings.width;
    }

abbrev pub asked_play : HeldPlay → PlayRequest
asked_play p =
    record {
      game = p.game.now;
      source = source_of p.source;
      style = p.style;
      opened_from = option_copied p.from;
      saved_as = option_copied p.save;
    }

abbrev pub asked_translation : HeldTranslation → TranslationRequest
asked_translation t =
    record { game = t.game.now; program = t.program.now; style = t.style; width = t.width }

abbrev pub asked_run : HeldRun → RunRequest
asked_run r =
    record {
      program = r.program.now;
      source = source_of r.source;
      steps = r.steps;
      width = r.width;
    }

abbrev pub asked_step : HeldStep → StepRequest
asked_step s = record { run = asked_run s.run; pause = pause_of s.pause }

abbrev pub asked_transfer : HeldTransfer → TransferRequest
asked_transfer t =
    record { opened_from = t.from.now; translation = asked_translation t.translation }

abbrev pub asked_cover : HeldCover → CoverRequest
asked_cover c = record { game = c.game.now; source = source_of c.source; style = c.style }

abbrev pub asked_simplification : HeldSimplification → SimplifyRequest
asked_simplification s =
    record { program = s.program.now; simpler = s.simpler.now; width = s.width }

abbrev pub request_of : HeldRequest → Request
request_of (Check game) = check game.now
request_of (Compile source game) = compile source.now game.now
request_of (Decompile game source) = decompile game.now source.now
request_of (Play p) = play (asked_play p)
request_of (Translate t) = translate (asked_translation t)
request_of (Run r) = run (asked_run r)
request_of (Hall game count) = hall game.now count
request_of (Transfer t) = transfer (asked_transfer t)
request_of (Simplify s) = simplify (asked_simplification s)
request_of (Step s) = step (asked_step s)
request_of (Cover c) = cover (asked_cover c)
request_of (Calls r) = calls (asked_run r)
request_of (Demo n) = demo n
