use Rattle.std.proofs.Common.{refl}
use Rattle.scott_tool.proofs.commands.storing.store_file.Goals as goal

pub returns-in-Ok : goal.returns-in-Ok
returns-in-Ok g c = record {
  stored = c.in-Ok.ensures.stored;
  failed = tt;
  later = c.store.ensures.later;
  steady = c.in-Ok.ensures.steady;
}

pub returns-in-Err-Absent : goal.returns-in-Err-Absent
returns-in-Err-Absent g c = absurd (rw c.in-Err-Absent.field-0-is at
    c.in-Err-Absent.ensures.refused)

pub returns-in-Err-Failed : goal.returns-in-Err-Failed
returns-in-Err-Failed g c = record {
  stored = tt;
  failed = (refl, rw c.in-Err-Failed.field-0-is at c.in-Err-Failed.ensures.refused);
  later = c.store.ensures.later;
  steady = tt;
}

pub returns-in-Err-TooLong : goal.returns-in-Err-TooLong
returns-in-Err-TooLong g c = absurd (rw c.in-Err-TooLong.field-0-is at
    c.in-Err-TooLong.ensures.refused)

pub returns-in-Err-Memory : goal.returns-in-Err-Memory
returns-in-Err-Memory g c = record {
  stored = tt;
  failed = rw c.in-Err-Memory.field-0-is at c.in-Err-Memory.ensures.refused;
  later = c.store.ensures.later;
  steady = tt;
}
