-- The statistics over a list of calls on listeners and sessions: every MD telegram is added, and nothing else.
use Rattle.std.specs.Prelude.{List, [], ◌∷◌}
use Rattle.telegram.specs.declared.Family.TheVariants.{Md}
use Rattle.statistics.specs.declared.Statistics.{Statistics}
use Rattle.statistics.specs.Statistics.{added, Arrived}
use Rattle.session_table.specs.Table.{Tables}
use Rattle.session_table.specs.Table.{Call, listen, unlisten, calling, telegram, reply, confirm, time_check, Answer, step}
use Rattle.messages.specs.Arriving.{outcome_of}

-- the statistics after a call
abbrev pub statistics_after : Call → Answer → Statistics → Statistics
statistics_after (listen com_id senders u) x s = s
statistics_after (unlisten k) x s = s
statistics_after (calling id timeout time) x s = s
statistics_after (telegram a d) x s = added Md (outcome_of x) s
statistics_after (reply k type timeout time) x s = s
statistics_after (confirm k) x s = s
statistics_after (time_check time) x s = s

-- .. and after a list of calls from given tables
abbrev pub statistics_over : List Call → Tables → Statistics → Statistics
statistics_over [] t s = s
statistics_over (c ∷ calls) t s = statistics_over calls (step c t).after (statistics_after c (step c t).answer s)

-- the telegrams of the list, each with its outcome
abbrev pub entered : Call → Answer → List Arrived → List Arrived
entered (listen com_id senders u) x more = more
entered (unlisten k) x more = more
entered (calling id timeout time) x more = more
entered (telegram a d) x more = record { family = Md; outcome = outcome_of x } ∷ more
entered (reply k type timeout time) x more = more
entered (confirm k) x more = more
entered (time_check time) x more = more

abbrev pub history : List Call → Tables → List Arrived
history [] t = []
history (c ∷ calls) t = entered c (step c t).answer (history calls (step c t).after)
