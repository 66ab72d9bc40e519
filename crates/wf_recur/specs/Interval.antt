-- How many units lie between two moments of a recurrence.
use Rattle.std.specs.Prelude.{ℕ, ℤ, pos, negsuc, ◌&&◌, nat_le, Option, Some, None, if◌then◌else◌}

-- 1 to 9,999,999 of every unit
abbrev pub interval_of : ℤ → Option ℕ
interval_of (pos n) = if nat_le 1 n && nat_le n 9999999 then Some n else None
interval_of (negsuc n) = None
