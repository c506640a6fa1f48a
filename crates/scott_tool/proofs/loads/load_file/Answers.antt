use Rattle.std.proofs.Common.{refl, inl, inr}
use Rattle.scott_tool.specs.Views.{load_of}
use Rattle.scott_tool.proofs.Loaded.{file-found, file-absent, file-long}
use Rattle.scott_tool.proofs.loads.load_file.Goals as goal

pub returns-in-Ok : goal.returns-in-Ok
returns-in-Ok g c =
    record {
      fetched = record {
        found = file-found (g.S.Shelf.seen c.args.shelf.now).files
            (load_of c.args.load) c.in-Ok.bytes.items c.in-Ok.ensures.found c.in-Ok.ensures.within;
        missed = tt;
        files_stay = c.load.ensures.files_stay;
        later = c.load.ensures.later;
        steady = c.in-Ok.ensures.steady;
      };
      within = c.in-Ok.ensures.within;
    }

pub returns-in-Err-Absent : goal.returns-in-Err-Absent
returns-in-Err-Absent g c =
    let lacks = rw c.in-Err-Absent.field-0-is at c.in-Err-Absent.ensures.refused in
    record {
      fetched = record {
        found = tt;
        missed = (
          (load_of c.args.load, refl, refl),
          inr (
            lacks.0,
            file-absent (g.S.Shelf.seen c.args.shelf.now).files
                (load_of c.args.load) lacks.0,
          ),
        );
        files_stay = c.load.ensures.files_stay;
        later = c.load.ensures.later;
        steady = tt;
      };
      within = tt;
    }

pub returns-in-Err-Failed : goal.returns-in-Err-Failed
returns-in-Err-Failed g c = record {
  fetched = record {
    found = tt;
    missed = (
      (load_of c.args.load, refl, refl),
      inl (rw c.in-Err-Failed.field-0-is at
          c.in-Err-Failed.ensures.refused),
    );
    files_stay = c.load.ensures.files_stay;
    later = c.load.ensures.later;
    steady = tt;
  };
  within = tt;
}

pub returns-in-Err-TooLong : goal.returns-in-Err-TooLong
returns-in-Err-TooLong g c =
    let longer = rw c.in-Err-TooLong.field-0-is at c.in-Err-TooLong.ensures.refused in
    record {
      fetched = record {
        found = tt;
        missed = (
          file-long (load_of c.args.load) _ longer.0
              (g.S.Shelf.seen c.args.shelf.now).files longer.1,
          longer.2,
        );
        files_stay = c.load.ensures.files_stay;
        later = c.load.ensures.later;
        steady = tt;
      };
      within = tt;
    }

pub returns-in-Err-Memory : goal.returns-in-Err-Memory
returns-in-Err-Memory g c = record {
  fetched = record {
    found = tt;
    missed = rw c.in-Err-Memory.field-0-is at c.in-Err-Memory.ensures.refused;
    files_stay = c.load.ensures.files_stay;
    later = c.load.ensures.later;
    steady = tt;
  };
  within = tt;
}
