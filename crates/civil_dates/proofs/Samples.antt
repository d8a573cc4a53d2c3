-- Small cases that were worked out by hand.
use Rattle.std.proofs.Common.{◌≡◌, refl, codes, Some, None}
use Rattle.civil_dates.specs.Texts.{date_value, moment_value, clock_value}

clock : clock_value (codes "23:59:59") ≡ Some 86399
clock = refl

no_clock : clock_value (codes "24:00:00") ≡ None
no_clock = refl

no_form : date_value (codes "2020-1-01") ≡ None
no_form = refl

no_day : date_value (codes "2023-02-29") ≡ None
no_day = refl

no_zone : moment_value (codes "2000-01-01T00:00:00z") ≡ None
no_zone = refl
