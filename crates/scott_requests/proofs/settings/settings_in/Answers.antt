use Rattle.std.proofs.Common.{◌∙◌, map, string_bytes, ap}
use Rattle.std.specs.Prelude.{option_map}
use Rattle.scott_requests.specs.Settings.{no_settings, settings_from}
use Rattle.scott_requests.specs.Views.{setting_of, settings_of}
use Rattle.scott_requests.proofs.Places.{unread, taken, filled}
use Rattle.scott_requests.proofs.settings.settings_in.Goals as goal

pub loop-word-preserved : goal.loop-word-preserved
loop-word-preserved c =
    filled c.args.kinds c.args.words.now c.word-item.result c.loop-word.word-index
    (settings_of c.loop-word.settings)
    (settings_from c.args.kinds no_settings
    (map string_bytes c.args.words.now)) c.loop-word-test.true c.word-item.is c.loop-word.invariant
    (setting_of c.in_ok-allowed_in.field-0) (settings_of c.in_ok-settings.settings)
    (rw c.as_str.ensures.value at c.in_ok-allowed_in.ensures) c.in_ok-settings.ensures

pub returns-in_err-allowed_in : goal.returns-in_err-allowed_in
returns-in_err-allowed_in c =
    ap (option_map settings_of) c.from_residual.ensures
    ∙ unread c.args.kinds c.args.words.now c.word-item.result c.loop-word.word-index
    (settings_of c.loop-word.settings)
    (settings_from c.args.kinds no_settings
    (map string_bytes c.args.words.now)) c.loop-word-test.true c.word-item.is c.loop-word.invariant
    (rw c.as_str.ensures.value at c.in_err-allowed_in.ensures)

pub returns-in_err-settings : goal.returns-in_err-settings
returns-in_err-settings c =
    ap (option_map settings_of) c.from_residual-in_err-settings.ensures
    ∙ taken c.args.kinds c.args.words.now c.word-item.result c.loop-word.word-index
    (settings_of c.loop-word.settings)
    (settings_from c.args.kinds no_settings
    (map string_bytes c.args.words.now)) c.loop-word-test.true c.word-item.is c.loop-word.invariant
    (setting_of c.in_ok-allowed_in.field-0)
    (rw c.as_str.ensures.value at c.in_ok-allowed_in.ensures) c.in_err-settings.ensures
