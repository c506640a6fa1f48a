use Rattle.std.proofs.Common.{◌∙◌, sym, ap, map, Some}
use Rattle.std.specs.Cmp.Lexicographic.{nat_list_cmp_total}
use Rattle.std.specs.FinMap.{get, get-from_entries}
use Rattle.std.specs.Option.{option_copied}
use Rattle.adv_io.specs.Shelved.{Shelved, entry}
use Rattle.adv_io.proofs.Files.{find-None, find-Some}
use Rattle.adv_io.proofs.memory_shelf.MemoryShelf.file.Goals as goal

pub returns-in_err-at : goal.returns-in_err-at
returns-in_err-at c =
    let files = c.self.inside.files.items in
    let name = c.args.name.now in
    let missed = rw c.deref.ensures.value at (sym c.place_of.ensures ∙ c.in_err-at.was) in
    ap option_copied c.from_residual.ensures
    ∙ sym (find-None name files missed)
    ∙ sym (get-from_entries nat_list_cmp_total (map entry files) name)
    ∙ ap (λ (s : Shelved). get s.files name) c.self.view_is

pub returns : goal.returns
returns c =
    let files = c.self.inside.files.items in
    let name = c.args.name.now in
    let found = rw c.deref.ensures.value at (sym c.place_of.ensures ∙ c.in_ok-at.was) in
    ap Some (c.as_slice.ensures.value ∙ ap (λ f. f.1.items) c.index.ensures)
    ∙ sym (find-Some name files c.in_ok-at.at c.index.result.now found)
    ∙ sym (get-from_entries nat_list_cmp_total (map entry files) name)
    ∙ ap (λ (s : Shelved). get s.files name) c.self.view_is
