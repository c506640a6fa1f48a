-- Where the words of the command line can't be gathered.
use Rattle.std.specs.Prelude.{ℕ}
use Rattle.std.specs.declared.io.ErrorKind.{ErrorKind}
use Rattle.std.specs.declared.io.ErrorKind.TheVariants.{OutOfMemory}

-- 9 for want of memory, and 12 for any other cause, as where one of them is no text
abbrev pub status_without_words : ErrorKind → ℕ
status_without_words OutOfMemory = 9
status_without_words _ = 12
