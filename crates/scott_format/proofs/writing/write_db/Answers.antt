use Rattle.std.proofs.Common.{◌≡◌, ◌++◌, ◌∙◌, List, ℕ, ap}
use Rattle.std.specs.List.{list_all}
use Rattle.std.proofs.lemmas.Bool.{and_parts}
use Rattle.std.proofs.lemmas.Result.{err_from_is_err_and}
use Rattle.scott_types.specs.Limits.{KeepsLimits, KeepsEntryLimits, is_file_text}
use Rattle.scott_types.specs.Database.{Database, database_of}
use Rattle.scott_format.specs.Canon.{line_text, lines_text, header_line, action_line, word_line, room_line, string_line, item_line, trailer_line, canon}
use Rattle.scott_format.proofs.Texts.{eight_written}
use Rattle.scott_format.proofs.writing.write_db.Goals as goal

-- the entries of a database that keeps the limits keep theirs
entries_kept : (parts db : Database) → parts ≡ db → KeepsLimits db → KeepsEntryLimits parts
entries_kept parts db is kept = rw is kept.entries

pub returns : goal.returns
returns c =
    let db = database_of c.parts-parts.result.now in
    eight_written c.new-out.result.items
    c.put_header.new.out.items c.put_lines.new.out.items c.put_lines-2.new.out.items c.put_lines-3.new.out.items
    c.put_lines-4.new.out.items c.put_lines-5.new.out.items c.put_lines-6.new.out.items c.put_trailer.new.out.items
    (line_text (header_line db)) (lines_text action_line db.actions) (lines_text word_line db.words) (lines_text room_line db.rooms)
    (lines_text string_line db.messages) (lines_text item_line db.items) (lines_text string_line db.comments) (line_text (trailer_line db.trailer))
    c.in_ok-put_header.ensures
    (rw c.deref.ensures.value at c.in_ok-put_lines.ensures) (rw c.deref-2.ensures.value at c.in_ok-put_lines-2.ensures)
    (rw c.deref-3.ensures.value at c.in_ok-put_lines-3.ensures) (rw c.deref-4.ensures.value at c.in_ok-put_lines-4.ensures)
    (rw c.deref-5.ensures.value at c.in_ok-put_lines-5.ensures) (rw c.deref-6.ensures.value at c.in_ok-put_lines-6.ensures)
    c.in_ok-put_trailer.ensures
    ∙ ap (λ (out : List ℕ). out ++ canon db) c.new-out.ensures.items ∙ ap canon c.parts-parts.ensures.value

pub put_header-requires : goal.put_header-requires
put_header-requires c = rw c.parts-parts.ensures.value c.parts-parts.ensures.kept

pub returns-in_err-put_header : goal.returns-in_err-put_header
returns-in_err-put_header c = let p = err_from_is_err_and c.from_residual.result c.from_residual.ensures.1 in rw (p.1) tt

pub returns-in_err-put_lines : goal.returns-in_err-put_lines
returns-in_err-put_lines c = let p = err_from_is_err_and c.from_residual-in_err-put_lines.result c.from_residual-in_err-put_lines.ensures.1 in rw (p.1) tt

pub returns-in_err-put_lines-2 : goal.returns-in_err-put_lines-2
returns-in_err-put_lines-2 c = let p = err_from_is_err_and c.from_residual-in_err-put_lines-2.result c.from_residual-in_err-put_lines-2.ensures.1 in rw (p.1) tt

pub returns-in_err-put_lines-3 : goal.returns-in_err-put_lines-3
returns-in_err-put_lines-3 c = let p = err_from_is_err_and c.from_residual-in_err-put_lines-3.result c.from_residual-in_err-put_lines-3.ensures.1 in rw (p.1) tt

pub returns-in_err-put_lines-4 : goal.returns-in_err-put_lines-4
returns-in_err-put_lines-4 c = let p = err_from_is_err_and c.from_residual-in_err-put_lines-4.result c.from_residual-in_err-put_lines-4.ensures.1 in rw (p.1) tt

pub returns-in_err-put_lines-5 : goal.returns-in_err-put_lines-5
returns-in_err-put_lines-5 c = let p = err_from_is_err_and c.from_residual-in_err-put_lines-5.result c.from_residual-in_err-put_lines-5.ensures.1 in rw (p.1) tt

pub returns-in_err-put_lines-6 : goal.returns-in_err-put_lines-6
returns-in_err-put_lines-6 c = let p = err_from_is_err_and c.from_residual-in_err-put_lines-6.result c.from_residual-in_err-put_lines-6.ensures.1 in rw (p.1) tt

pub returns-in_err-put_trailer : goal.returns-in_err-put_trailer
returns-in_err-put_trailer c = let p = err_from_is_err_and c.from_residual-in_err-put_trailer.result c.from_residual-in_err-put_trailer.ensures.1 in rw (p.1) tt

pub put_lines-requires : goal.put_lines-requires
put_lines-requires c =
    rw c.deref.ensures.value (entries_kept _ _ c.parts-parts.ensures.value c.parts-parts.ensures.kept).actions

pub put_lines-requires-2 : goal.put_lines-requires-2
put_lines-requires-2 c =
    rw c.deref-2.ensures.value (entries_kept _ _ c.parts-parts.ensures.value c.parts-parts.ensures.kept).words

pub put_lines-requires-3 : goal.put_lines-requires-3
put_lines-requires-3 c =
    rw c.deref-3.ensures.value (entries_kept _ _ c.parts-parts.ensures.value c.parts-parts.ensures.kept).rooms

pub put_lines-requires-4 : goal.put_lines-requires-4
put_lines-requires-4 c =
    rw c.deref-4.ensures.value (and_parts (list_all is_file_text c.parts-parts.result.now.messages.items) _ (entries_kept _ _ c.parts-parts.ensures.value c.parts-parts.ensures.kept).texts).0

pub put_lines-requires-5 : goal.put_lines-requires-5
put_lines-requires-5 c =
    rw c.deref-5.ensures.value (entries_kept _ _ c.parts-parts.ensures.value c.parts-parts.ensures.kept).items
