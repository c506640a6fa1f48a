use Rattle.std.proofs.Common.{◌∙◌, ◌++◌, sym, ap, Some, take, drop, rules}
use Rattle.std.proofs.lemmas.List.{take-append-drop}
use Rattle.adv_io.specs.History.{says}
use Rattle.adv_io.specs.Recorded.{Recorded}
use Rattle.adv_io.proofs.Histories.{says-append}
use Rattle.adv_io.proofs.memory_console.MemoryConsoleConsole.say.Goals as goal

-- where there was too little room, the bytes that fit were said
pub returns-clause-every : goal.returns-clause-every
returns-clause-every c =
    let room = c.self.inside.room in
    let bytes = c.args.bytes.now in
    record {
      said = search rules;
      part = record {
        done = says (take room bytes);
        rest = says (drop room bytes);
        whole = sym (says-append (take room bytes) (drop room bytes)) ∙ ap says (take-append-drop room bytes);
        grew = ap (λ (r : Recorded). Some r.history) (c.self-2.view_is ∙ c.keep_said-2.ensures)
            ∙ ap (λ (r : Recorded). Some (r.history ++ says (take room bytes))) c.self.view_is;
      };
      lines_stay = search rules;
      bounded = search rules;
      cause = search rules;
    }
