-- Over every list of calls the statistics are those of the history of its telegrams.
-- Assumes nothing.
use mathlib.Core.Path.{◌≡◌, refl}
use mathlib.Core.List.{List}
use Rattle.statistics.specs.declared.Statistics.{Statistics}
use Rattle.statistics.specs.Statistics.{Arrived, after_all}
use Rattle.statistics.proofs.History.{of-history}
use Rattle.session_table.specs.Table.{Tables}
use Rattle.session_table.specs.Table.{Call, listen, unlisten, calling, telegram, reply, confirm, time_check, Answer, step}
use Rattle.messages.specs.History.{statistics_after, statistics_over, entered, history}

one-call : (c : Call) (x : Answer) (more : List Arrived) (s : Statistics)
    → after_all (entered c x more) s ≡ after_all more (statistics_after c x s)
one-call (listen com_id senders u) x more s = refl
one-call (unlisten k) x more s = refl
one-call (calling id timeout time) x more s = refl
one-call (telegram a d) x more s = refl
one-call (reply k type timeout time) x more s = refl
one-call (confirm k) x more s = refl
one-call (time_check time) x more s = refl

pub md-statistics : (calls : List Call) (t : Tables) (s : Statistics)
    → statistics_over calls t s ≡ after_all (history calls t) s
md-statistics =
    of-history
    (λ c t. (step c t).after)
    (λ c t. statistics_after c (step c t).answer)
    statistics_over
    history
    (λ t s. refl)
    (λ c calls t s. refl)
    (λ t s. refl)
    (λ c calls t s. one-call c (step c t).answer (history calls (step c t).after) s)
