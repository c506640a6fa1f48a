use Rattle.std.proofs.Common.{◌≡◌, map, drop, string_bytes}
use Rattle.scott_requests.specs.Settings.{no_settings, settings_from}
use Rattle.scott_requests.specs.Views.{settings_of}
use Rattle.scott_requests.proofs.settings.settings_in.Given as goal

-- the settings so far and the words that are left give what all words give
abbrev pub invariant-loop-word : goal.invariant-loop-word
invariant-loop-word l =
    settings_from l.kinds (settings_of l.settings) (map string_bytes
    (drop l.word-index l.words)) ≡ settings_from l.kinds no_settings (map string_bytes l.words)
