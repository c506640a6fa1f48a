use Rattle.std.proofs.Common.{◌≡◌, ◌∙◌, sym, ap, string_bytes}
use Rattle.std.specs.FinMap.{insert}
use Rattle.adv_io.specs.Shelved.{Shelved}
use Rattle.adv_io.proofs.Files.{named-place, from_entries-set, from_entries-push}
use Rattle.adv_io.proofs.memory_shelf.MemoryShelf.put.Goals as goal

pub returns-in-Some-clause-ok : goal.returns-in-Some-clause-ok
returns-in-Some-clause-ok c =
    let files = c.self.inside.files.items in
    let name = c.args.name.now in
    let found = rw c.deref.ensures.value at (sym c.place_of.ensures ∙ c.in-Some.is) in
    let named : string_bytes c.index_mut-file.result.now.0 ≡ name = ap (λ f. string_bytes f.0) c.index_mut-file.ensures.value ∙ named-place name files c.in-Some.at c.index_mut-file.result.now found in
    rw (from_entries-set name files c.in-Some.at (c.index_mut-file.result.now.0, c.in_ok-kept.kept) found named, c.in_ok-kept.ensures.items)
    (ap (λ (s : Shelved). record s { files = insert s.files name c.args.bytes.now }) c.self.view_is)

pub returns-in_ok-push-in-None-clause-ok : goal.returns-in_ok-push-in-None-clause-ok
returns-in_ok-push-in-None-clause-ok c =
    let files = c.self.inside.files.items in
    let name = c.args.name.now in
    let missed = rw c.deref.ensures.value at (sym c.place_of.ensures ∙ c.in-None.is) in
    rw (c.in_ok-push-in-None.ensures.items, from_entries-push name files (c.in_ok-from_str-in-None.field-0, c.in_ok-kept.kept) missed c.in_ok-from_str-in-None.ensures.ok, c.in_ok-kept.ensures.items)
    (ap (λ (s : Shelved). record s { files = insert s.files name c.args.bytes.now }) c.self.view_is)
