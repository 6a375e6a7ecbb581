-- What clauses see of an interval.
use Rattle.mz_interval.specs.declared.interval.Interval.{Interval}
use Rattle.mz_interval.specs.Ends.{Ends}

-- the two ends
abbrev pub ends : Interval → Ends
ends i = (i.lo, i.hi)
