-- Each call serves, and its answer is put.
use mathlib.Core.Path.{refl}
use Rattle.answer.specs.Answer.{ascii}
use Rattle.answer.proofs.Rooms.{filled_as}
use Rattle.subscription_table.specs.Table.{granted, freed, marked}
use Rattle.scenario_pd_words.proofs.Done.{said_granted, said_done}
use Rattle.scenario_pd.proofs.Turning.{served}
use Rattle.scenario_pd.proofs.serve.Goals as goal

pub returns-in-Subscribe : goal.returns-in-Subscribe
returns-in-Subscribe c =
    rw c.in-Subscribe.is
    (served _ _ _ c.subscribe.ensures
    (filled_as _ (said_granted granted (ascii "slot") (λ n. refl) c.subscribe.result) c.granted.ensures))

pub returns-in-Unsubscribe : goal.returns-in-Unsubscribe
returns-in-Unsubscribe c =
    rw c.in-Unsubscribe.is
    (served _ _ _ c.unsubscribe.ensures
    (filled_as _ (said_done freed (ascii "freed") refl c.unsubscribe.result) c.done.ensures))

pub returns-in-TimeCheck : goal.returns-in-TimeCheck
returns-in-TimeCheck c =
    rw c.in-TimeCheck.is
    (served _ _ _ c.time_check.ensures
    (filled_as _ (said_granted marked (ascii "marked") (λ n. refl) c.time_check.result)
    c.granted-in-TimeCheck.ensures))

pub returns-in-Damage : goal.returns-in-Damage
returns-in-Damage c = rw c.in-Damage.is (c.lengthen.ensures c.args.store.now)
