use Rattle.std.proofs.Common.{◌≡◌, ◌∙◌, ◌++◌, refl, sym}
use Rattle.std.proofs.lemmas.Result.{IfOk-weaker}
use Rattle.scott_types.specs.declared.commands.Heard.TheVariants.{Blank, Unknown}
use Rattle.scott_types.specs.declared.phrases.Phrase.TheVariants.{Prompt}
use Rattle.scott_types.specs.Phrase.{text_of}
use Rattle.scott_rules.specs.Commands.{heard, word_at}
use Rattle.scott_rules.specs.Rounds.{unknown_word}
use Rattle.scott_turn.proofs.Showing.{shown_said}
use Rattle.scott_turn.proofs.Tallying.{tallied-none, noted-said}
use Rattle.adv_io.specs.Steps.{said_steps}
use Rattle.scott_turn.proofs.answering.answer.Goals as goal

pub returns-in-Blank : goal.returns-in-Blank
returns-in-Blank g c =
    let blank : heard c.args.game.now.db c.args.line.now ≡ Blank = sym c.command.ensures.value ∙ c.in-Blank.is in
    record {
      does = record {
        spoken = rw (blank, shown_said (text_of Prompt)) c.ask_again.ensures.spoken;
        tried = rw blank (tallied-none c.ask_again.result (said_steps (text_of Prompt)) c.args.tally.now (noted-said (text_of Prompt)));
        left = rw blank (IfOk-weaker c.ask_again.result _ _ (λ position at. rw at refl) c.ask_again.ensures.position);
      };
      fits = c.requires;
    }

pub returns-in-Unknown : goal.returns-in-Unknown
returns-in-Unknown g c =
    let start = c.in-Unknown.start in
    let size = c.in-Unknown.length in
    let unknown : heard c.args.game.now.db c.args.line.now ≡ Unknown start size = sym c.command.ensures.value ∙ c.in-Unknown.is in
    record {
      does = record {
        spoken = rw (unknown, shown_said (unknown_word (word_at c.args.line.now (start, size)) ++ text_of Prompt)) (rw c.word_at.ensures at c.refuse_word.ensures.spoken);
        tried = rw unknown (tallied-none c.refuse_word.result (said_steps (unknown_word (word_at c.args.line.now (start, size)) ++ text_of Prompt)) c.args.tally.now (noted-said (unknown_word (word_at c.args.line.now (start, size)) ++ text_of Prompt)));
        left = rw unknown (IfOk-weaker c.refuse_word.result _ _ (λ position at. rw at refl) c.refuse_word.ensures.position);
      };
      fits = c.requires;
    }
