-- The worked examples, computed.
use Rattle.std.proofs.Common.{refl, rules, pos}
use Rattle.std.specs.Fmt.{digits}
use Rattle.std.specs.Prelude.{codes}
use Rattle.jiff_core.specs.Calendar.{days_from_civil, day_count, days_of_years, days_of_months}
use Rattle.jiff_core.specs.DateTime.{civil_nanos}
use Rattle.record_spec.specs.Date.{IsDateOf}
use Rattle.record_spec.specs.Worked.{AreWorked}

epoch : IsDateOf 0 (codes "1970-01-01T00:00:00.000Z")
unfolding civil_nanos days_from_civil day_count days_of_years days_of_months
epoch = record {
  utc = record {
    date = record { year = pos 1970; month = 1; day = 1; year_in = search rules; month_in = search rules; day_in = search rules };
    time = record {
      hour = 0;
      minute = 0;
      second = 0;
      subsec_nanosecond = 0;
      hour_in = search rules;
      minute_in = search rules;
      second_in = search rules;
      subsec_in = search rules;
    };
  };
  passed = refl;
  written = refl;
}

test_start : IsDateOf 1700000000000 (codes "2023-11-14T22:13:20.000Z")
unfolding civil_nanos days_from_civil day_count days_of_years days_of_months
test_start = record {
  utc = record {
    date = record { year = pos 2023; month = 11; day = 14; year_in = search rules; month_in = search rules; day_in = search rules };
    time = record {
      hour = 22;
      minute = 13;
      second = 20;
      subsec_nanosecond = 0;
      hour_in = search rules;
      minute_in = search rules;
      second_in = search rules;
      subsec_in = search rules;
    };
  };
  passed = refl;
  written = refl;
}

leap_day : IsDateOf 1709164800001 (codes "2024-02-29T00:00:00.001Z")
unfolding civil_nanos days_from_civil day_count days_of_years days_of_months
leap_day = record {
  utc = record {
    date = record { year = pos 2024; month = 2; day = 29; year_in = search rules; month_in = search rules; day_in = search rules };
    time = record {
      hour = 0;
      minute = 0;
      second = 0;
      subsec_nanosecond = 1000000;
      hour_in = search rules;
      minute_in = search rules;
      second_in = search rules;
      subsec_in = search rules;
    };
  };
  passed = refl;
  written = refl;
}

last_of_year : IsDateOf 1735689599999 (codes "2024-12-31T23:59:59.999Z")
unfolding civil_nanos days_from_civil day_count days_of_years days_of_months
last_of_year = record {
  utc = record {
    date = record { year = pos 2024; month = 12; day = 31; year_in = search rules; month_in = search rules; day_in = search rules };
    time = record {
      hour = 23;
      minute = 59;
      second = 59;
      subsec_nanosecond = 999000000;
      hour_in = search rules;
      minute_in = search rules;
      second_in = search rules;
      subsec_in = search rules;
    };
  };
  passed = refl;
  written = refl;
}

latest : IsDateOf 253402000000000 (codes "9999-12-28T12:26:40.000Z")
unfolding civil_nanos days_from_civil day_count days_of_years days_of_months
latest = record {
  utc = record {
    date = record { year = pos 9999; month = 12; day = 28; year_in = search rules; month_in = search rules; day_in = search rules };
    time = record {
      hour = 12;
      minute = 26;
      second = 40;
      subsec_nanosecond = 0;
      hour_in = search rules;
      minute_in = search rules;
      second_in = search rules;
      subsec_in = search rules;
    };
  };
  passed = refl;
  written = refl;
}

pub worked : AreWorked
unfolding digits
worked = record {
  nothing = refl;
  one_group = refl;
  four_groups = refl;
  name = refl;
  short = refl;
  epoch = epoch;
  test_start = test_start;
  leap_day = leap_day;
  last_of_year = last_of_year;
  latest = latest;
}
