use Rattle.std.proofs.Common.{◌≡◌, ◌<◌, ◌∷◌, [], ◌++◌, ◌∙◌, ap, length, length-append, arith}
use Rattle.adv_io.specs.Recorded.{Recorded, with_taken}
use Rattle.adv_io.proofs.Histories.{AreMarks-push}
use Rattle.adv_io.proofs.Recordings.{recorded-push}
use Rattle.adv_io.proofs.memory_console.MemoryConsole.next_line.Goals as goal

pub invariant_of-self : goal.invariant_of-self
invariant_of-self c =
    let said = c.self.inside.said in
    let marks = c.self.inside.marks in
    let lines = c.self.inside.lines in
    let more : length marks.items < length lines.items = omega (arith, marks.ok.0, lines.ok.0, c.len-at.ensures, c.len.ensures, c.self.invariant.taken) in
    let end : c.push_reserved.new.self.items ≡ marks.items ++ length said.items ∷ [] = c.push_reserved.ensures.items ∙ ap (λ n. marks.items ++ n ∷ []) (c.len-2.ensures ∙ said.ok.0) in
    record {
      in_order = rw end (AreMarks-push 0 marks.items (length said.items) c.self.invariant.in_order);
      taken = rw (end, length-append) (omega arith);
      said_fits = c.self.invariant.said_fits;
      marks_fit = rw c.push_reserved.ensures.capacity c.self.invariant.marks_fit;
    }

pub returns-clause-taken : goal.returns-clause-taken
returns-clause-taken c =
    let said = c.self.inside.said in
    let marks = c.self.inside.marks in
    let lines = c.self.inside.lines in
    let more : length marks.items < length lines.items = omega (arith, marks.ok.0, lines.ok.0, c.len-at.ensures, c.len.ensures, c.self.invariant.taken) in
    let end : c.push_reserved.new.self.items ≡ marks.items ++ length said.items ∷ [] = c.push_reserved.ensures.items ∙ ap (λ n. marks.items ++ n ∷ []) (c.len-2.ensures ∙ said.ok.0) in
    rw end (recorded-push said.items marks.items lines.items c.self.inside.room c.self.inside.calls c.self.invariant.in_order more)
    ∙ ap (λ (r : Recorded). with_taken r r.left) c.self.view_is
