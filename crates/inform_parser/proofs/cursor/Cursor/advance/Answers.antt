use Rattle.std.proofs.Common.{sym, ◌∙◌, ap, Ok, length, reverse, arith}
use Rattle.inform_lexer.specs.Spans.{lexemes}
use Rattle.inform_grammar.specs.Reading.{Input, input}
use Rattle.inform_parser.specs.Glances.{first_glance, opened_within}
use Rattle.inform_parser.specs.Reading.{read}
use Rattle.inform_parser.specs.Nexts.{any_next}
use Rattle.inform_parser.proofs.Glances.{ended, no_room, fewer_left, one_taken}
use Rattle.inform_parser.proofs.cursor.Cursor.advance.Goals as goal

pub returns-in_default : goal.returns-in_default
returns-in_default c = record {
  gives = ended c.args.self.now (ap (λ (s : Input). first_glance s.rest) (sym c.self.view_is) ∙ sym c.self.invariant ∙ c.in_default.is);
  ahead = omega (arith, ap (λ (s : Input). length s.rest) c.self.view_is);
  taken = tt;
}

pub returns-in_default-opened_after : goal.returns-in_default-opened_after
returns-in_default-opened_after c = record {
  gives = no_room c.args.self.now c.in-Some.seen
      (ap (λ (s : Input). first_glance s.rest) (sym c.self.view_is) ∙ sym c.self.invariant ∙ c.in-Some.is)
      (ap (λ (s : Input). opened_within c.in-Some.seen s.opened) (sym c.self.view_is) ∙ sym c.opened_after.ensures ∙ c.in_default-opened_after.is);
  ahead = omega (arith, ap (λ (s : Input). length s.rest) c.self.view_is);
  taken = tt;
}

pub skip-requires : goal.skip-requires
skip-requires c = omega (arith, fewer_left _ c.in-Some.seen (sym c.self.invariant ∙ c.in-Some.is))

pub returns : goal.returns
returns c =
    let seen = sym c.self.invariant ∙ c.in-Some.is in
    let fewer = fewer_left _ c.in-Some.seen seen in
    let whole = ap (λ (s : Input). length s.rest) c.self.view_is in
    let left = ap (λ (s : Input). length s.rest) c.skip.ensures in
    record {
      gives = ap (λ (s : Input). read any_next s) (sym c.self.view_is)
          ∙ one_taken (input c.self.inside.opened (lexemes c.self.inside.bytes.now (reverse c.self.inside.rest.items))) c.in-Some-opened_after.opened c.in-Some.seen
          seen (sym c.opened_after.ensures ∙ c.in-Some-opened_after.is)
          ∙ ap (λ (s : Input). Ok (tt, s)) (sym c.skip.ensures);
      ahead = omega (arith, fewer, whole, left);
      taken = omega (arith, fewer, whole, left);
    }
