-- The text of the report.
use Rattle.std.specs.Prelude.{ℕ, List, ◌++◌, length, codes, decimal, ℤ}
use Rattle.std.specs.List.{flat_map}
use Rattle.std.specs.Fmt.{signed_decimal}
use Rattle.scott_types.specs.Database.{Database}
use Rattle.adv_check.specs.declared.findings.Part.{Part}
use Rattle.adv_check.specs.declared.findings.Part.TheVariants.{Condition, Opcode, Exit, Place}
use Rattle.adv_check.specs.declared.findings.What.{What}
use Rattle.adv_check.specs.declared.findings.What.TheVariants.{Item, Room, Flag, Backup, Message, Unused, NoParameter}
use Rattle.adv_check.specs.declared.findings.Warning.{Warning}
use Rattle.adv_check.specs.Sites.{warnings}

-- words, and a number after them
abbrev pub counted : List ℕ → ℕ → List ℕ
counted words n = words ++ decimal n

-- how many entries each list has
abbrev pub summary_text : Database → List ℕ
summary_text db =
    counted (codes "rooms ") (length db.rooms)
    ++ (counted (codes ", items ") (length db.items)
    ++ (counted (codes ", lines ") (length db.actions)
    ++ (counted (codes ", words ") (length db.words)
    ++ (counted (codes ", messages ") (length db.messages)
    ++ codes "\n"))))

-- where a warning is
abbrev pub place_text : Part → ℕ → ℕ → List ℕ
place_text Condition line place =
    counted (codes "line ") line ++ counted (codes ", condition ") place
place_text Opcode line place = counted (codes "line ") line ++ counted (codes ", opcode ") place
place_text Exit room place = counted (codes "room ") room ++ counted (codes ", exit ") place
place_text Place item place = counted (codes "item ") item

-- what is wrong there
abbrev pub what_text : What → ℤ → List ℕ
what_text Item value = codes "no item " ++ signed_decimal value
what_text Room value = codes "no room " ++ signed_decimal value
what_text Flag value = codes "no flag " ++ signed_decimal value
what_text Backup value = codes "no backup " ++ signed_decimal value
what_text Message value = codes "no message " ++ signed_decimal value
what_text Unused value = codes "unused " ++ signed_decimal value
what_text NoParameter value = codes "no parameter left"

abbrev pub warning_text : Warning → List ℕ
warning_text w =
    place_text w.part w.index w.place ++ (codes ": " ++ (what_text w.what w.value ++ codes "\n"))

-- how many warnings there are
abbrev pub total_text : List Warning → List ℕ
total_text ws = counted (codes "warnings ") (length ws) ++ codes "\n"

-- the lengths of the lists, a line for each warning, and how many there are
abbrev pub report_text : Database → List ℕ
report_text db =
    summary_text db ++ (flat_map warning_text (warnings db) ++ total_text (warnings db))
