use Rattle.std.proofs.Common.{◌∙◌, ap, map, drop, List}
use Rattle.source_reader.specs.declared.tree.At.{At}
use Rattle.source_reader.specs.declared.tree.RoomPart.{RoomPart}
use Rattle.source_reader.specs.declared.tree.MessagePart.{MessagePart}
use Rattle.source_reader.specs.declared.tree.ItemPart.{ItemPart}
use Rattle.source_reader.specs.declared.tree.WordPart.{WordPart}
use Rattle.adv_compiler.specs.declared.names.Key.TheVariants.{Verb, Noun}
use Rattle.adv_compiler.specs.Known.{named_from, title_of, column_of, known_of}
use Rattle.adv_compiler.proofs.Lookups.{same_known}
use Rattle.adv_compiler.proofs.tables.Tables.of.Goals as goal

pub returns-clause-known : goal.returns-clause-known
returns-clause-known c =
    same_known _ (known_of c.args.source.now)
    (λ w. c.in_ok-rooms.ensures.found w ∙ ap (λ (es : List (At RoomPart)). named_from (map (λ e. title_of e.what.name) es) 0 w) c.as_slice-2.ensures)
    (λ w. c.in_ok-messages.ensures.found w ∙ ap (λ (es : List (At MessagePart)). named_from (map (λ e. title_of e.what.name) es) 0 w) c.as_slice-3.ensures)
    (λ w. c.in_ok-items.ensures.found w ∙ ap (λ (es : List (At ItemPart)). named_from (map (λ e. title_of e.what.name) es) 0 w) c.as_slice-4.ensures)
    (λ w. c.in_ok-verbs.ensures.found w
    ∙ ap (λ (es : List (At WordPart)). named_from (map (λ e. column_of Verb e.what) es) 1 w) (c.after_first-words.ensures ∙ ap (drop 1) c.as_slice.ensures))
    (λ w. c.in_ok-nouns.ensures.found w
    ∙ ap (λ (es : List (At WordPart)). named_from (map (λ e. column_of Noun e.what) es) 1 w) (c.after_first-words.ensures ∙ ap (drop 1) c.as_slice.ensures))
