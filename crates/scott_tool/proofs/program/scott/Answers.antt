use Rattle.scott_tool.proofs.Promises.{promised}
use Rattle.scott_tool.proofs.Done.{meanings}
use Rattle.scott_tool.proofs.program.scott.Goals as goal

pub returns : goal.returns
returns g c =
    let laws = c.reading_laws.ensures in
    let all = promised laws _ _ _ _ _ _ c.handle.ensures in
    let means = meanings laws _ _ _ _ _ _ all in
    record {
      status = all.status_is;
      seen = all.seen;
      files = all.files;
      complete = all.complete;
      done = all.done;
      checked = means.checked_is;
      compiled = means.compiled_is;
      decompiled = means.decompiled_is;
      played = means.played_is;
      translated = means.translated_is;
      transferred = means.transferred_is;
      simplified = means.simplified_is;
      ran = means.ran_is;
      stepped = means.stepped_is;
      replayed = means.replayed_is;
      played_hall = means.played_hall_is;
      covered = means.covered_is;
      called = means.called_is;
      recounted = means.recounted_is;
      demonstrated = means.demonstrated_is;
      counts = all.counts;
    }
