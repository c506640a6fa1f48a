-- Calls that are numbered from 1, of which some fail.
use Rattle.std.specs.Prelude.{ℕ, ◌==◌, Bool, List, if◌then◌else◌, refl}
use Rattle.std.specs.Coded.{Coded, code_by, coded×, coded_ℕ, coded_list}
use Rattle.std.specs.List.{list_any}
use Rattle.adv_io.specs.Faults.{raised}

-- how many calls were made, how many faults were counted, and the numbers of the calls that fail
pub record CallCount : Type 0 where
  pub made : ℕ
  pub faults : ℕ
  pub failing : List ℕ

-- they are stored as a pair of pairs
abbrev pub coded_call_count : Coded CallCount
coded_call_count =
    code_by (ℕ × (ℕ × List ℕ)) (coded× coded_ℕ (coded× coded_ℕ (coded_list coded_ℕ)))
    (λ c. (c.made, (c.faults, c.failing)))
    (λ p. record { made = p.0; faults = p.1.0; failing = p.1.1 })
    (λ _. refl)

-- no call yet
abbrev pub unused : List ℕ → CallCount
unused failing = record { made = 0; faults = 0; failing = failing }

-- the next call's number is one of those that fail
abbrev pub fails_next : CallCount → Bool
fails_next calls = list_any (λ number. number == raised calls.made) calls.failing

-- one more call
abbrev pub counted : CallCount → CallCount
counted calls = record calls { made = raised calls.made }

-- one more fault
abbrev pub with_fault : CallCount → CallCount
with_fault calls = record calls { faults = raised calls.faults }

-- one more call, and one more fault where its number is one of those that fail
abbrev pub after_next : CallCount → CallCount
after_next calls = if fails_next calls then with_fault (counted calls) else counted calls
