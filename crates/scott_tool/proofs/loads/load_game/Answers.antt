use Rattle.std.proofs.Common.{refl, inl, inr}
use Rattle.scott_tool.specs.Loading.{database_load}
use Rattle.scott_tool.proofs.Loaded.{file-found, file-absent, file-long}
use Rattle.scott_tool.proofs.loads.load_game.Goals as goal

pub returns-in-Ok : goal.returns-in-Ok
returns-in-Ok g c =
    let known = (g.S.Shelf.seen c.args.shelf.now).files in
    let found = c.in-Ok.ensures.found in
    record {
      found = (
        found.0,
        found.1,
        file-found known (database_load c.args.name.now) found.0 found.2.found found.2.within,
      );
      missed = tt;
      files_stay = c.load_db.ensures.files_stay;
      later = c.load_db.ensures.later;
      steady = c.in-Ok.ensures.steady;
    }

pub returns-in-Err-Absent : goal.returns-in-Err-Absent
returns-in-Err-Absent g c =
    let known = (g.S.Shelf.seen c.args.shelf.now).files in
    let load = database_load c.args.name.now in
    let lacks = rw c.in-Err-Absent.field-0-is at c.in-Err-Absent.ensures.refused in
    record {
      found = tt;
      missed = ((load, refl, refl), inr (lacks.0, file-absent known load lacks.0));
      files_stay = c.load_db.ensures.files_stay;
      later = c.load_db.ensures.later;
      steady = tt;
    }

pub returns-in-Err-Failed : goal.returns-in-Err-Failed
returns-in-Err-Failed g c = record {
  found = tt;
  missed = (
    (database_load c.args.name.now, refl, refl),
    inl (rw c.in-Err-Failed.field-0-is at c.in-Err-Failed.ensures.refused),
  );
  files_stay = c.load_db.ensures.files_stay;
  later = c.load_db.ensures.later;
  steady = tt;
}

pub returns-in-Err-TooLong : goal.returns-in-Err-TooLong
returns-in-Err-TooLong g c =
    let known = (g.S.Shelf.seen c.args.shelf.now).files in
    let longer = rw c.in-Err-TooLong.field-0-is at c.in-Err-TooLong.ensures.refused in
    record {
      found = tt;
      missed = (file-long (database_load c.args.name.now) _ longer.0 known longer.1, longer.2);
      files_stay = c.load_db.ensures.files_stay;
      later = c.load_db.ensures.later;
      steady = tt;
    }

pub returns-in-Err-Memory : goal.returns-in-Err-Memory
returns-in-Err-Memory g c = record {
  found = tt;
  missed = rw c.in-Err-Memory.field-0-is at c.in-Err-Memory.ensures.refused;
  files_stay = c.load_db.ensures.files_stay;
  later = c.load_db.ensures.later;
  steady = tt;
}
