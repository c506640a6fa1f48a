use Rattle.std.proofs.Common.{◌∙◌, length, None, Some, Ok, ap, sym}
use Rattle.std.specs.FinMap.{get}
use Rattle.std.specs.Result.{is_ok}
use Rattle.adv_io.specs.CallCount.{fails_next}
use Rattle.adv_io.specs.Shelved.{Shelved, files_of, called}
use Rattle.adv_io.proofs.Loading.{absent-answer, long-answer, memory-answer, file-answer, loaded-file, within-long, within-fits, loads-absent, loads-long, loads-file, loads-nothing}
use Rattle.adv_io.proofs.memory_shelf.MemoryShelfShelf.load.Goals as goal

pub returns-in_default : goal.returns-in_default
returns-in_default c =
    let name = c.args.name.now in
    let goes = sym (ap (λ (shelf : Shelved). fails_next shelf.calls) c.self.view_is) ∙ sym c.next_fails.ensures.answer ∙ c.if-next_fails.false in
    let none = sym (ap (λ (shelf : Shelved). get shelf.files name) c.self.view_is) ∙ sym c.in_default.ensures in
    let counted = ap (λ calls. record { files = files_of c.self.inside.files.items; calls = calls }) c.next_fails.ensures.counted ∙ ap called c.self.view_is in
    record {
      failing = absent-answer _ goes;
      exact = loaded-file c.args.self.now name c.args.limit None goes none;
      counted = counted;
      every = loads-absent c.args.self.now _ name c.args.limit goes counted none;
    }

pub returns-then-bytes-limit : goal.returns-then-bytes-limit
returns-then-bytes-limit c =
    let name = c.args.name.now in
    let bytes = c.in-Some.bytes.now in
    let goes = sym (ap (λ (shelf : Shelved). fails_next shelf.calls) c.self.view_is) ∙ sym c.next_fails.ensures.answer ∙ c.if-next_fails.false in
    let file = sym (ap (λ (shelf : Shelved). get shelf.files name) c.self.view_is) ∙ sym c.in-Some.ensures in
    let counted = ap (λ calls. record { files = files_of c.self.inside.files.items; calls = calls }) c.next_fails.ensures.counted ∙ ap called c.self.view_is in
    record {
      failing = long-answer _ goes (length bytes);
      exact = loaded-file c.args.self.now name c.args.limit (Some bytes) goes file ∙ within-long c.args.limit bytes c.if-bytes-limit.true;
      counted = counted;
      every = loads-long c.args.self.now _ name c.args.limit goes counted bytes file c.if-bytes-limit.true;
    }

pub returns-in-Ok : goal.returns-in-Ok
returns-in-Ok c =
    let name = c.args.name.now in
    let bytes = c.in-Some.bytes.now in
    let goes = sym (ap (λ (shelf : Shelved). fails_next shelf.calls) c.self.view_is) ∙ sym c.next_fails.ensures.answer ∙ c.if-next_fails.false in
    let file = sym (ap (λ (shelf : Shelved). get shelf.files name) c.self.view_is) ∙ sym c.in-Some.ensures in
    let counted = ap (λ calls. record { files = files_of c.self.inside.files.items; calls = calls }) c.next_fails.ensures.counted ∙ ap called c.self.view_is in
    let loads = loaded-file c.args.self.now name c.args.limit (Some bytes) goes file ∙ within-fits c.args.limit bytes c.if-bytes-limit.false in
    record {
      failing = file-answer _ goes c.in-Ok.copy;
      exact = loads ∙ ap Ok (sym c.in-Ok.ensures.items);
      counted = counted;
      every = loads-file c.args.self.now _ name c.args.limit goes counted c.in-Ok.copy (file ∙ ap Some (sym c.in-Ok.ensures.items)) (rw c.in-Ok.ensures.items c.if-bytes-limit.false);
    }

pub returns-in-Err : goal.returns-in-Err
returns-in-Err c =
    let name = c.args.name.now in
    let bytes = c.in-Some.bytes.now in
    let goes = sym (ap (λ (shelf : Shelved). fails_next shelf.calls) c.self.view_is) ∙ sym c.next_fails.ensures.answer ∙ c.if-next_fails.false in
    let file = sym (ap (λ (shelf : Shelved). get shelf.files name) c.self.view_is) ∙ sym c.in-Some.ensures in
    let counted = ap (λ calls. record { files = files_of c.self.inside.files.items; calls = calls }) c.next_fails.ensures.counted ∙ ap called c.self.view_is in
    let loads = loaded-file c.args.self.now name c.args.limit (Some bytes) goes file ∙ within-fits c.args.limit bytes c.if-bytes-limit.false in
    record {
      failing = memory-answer _ goes;
      exact = ap is_ok loads;
      counted = counted;
      every = loads-nothing c.args.self.now _ name c.args.limit goes counted;
    }
