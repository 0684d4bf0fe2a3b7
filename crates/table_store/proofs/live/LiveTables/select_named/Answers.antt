use Rattle.table_store.proofs.Calls.{ran-as, select-named}
use Rattle.table_store.proofs.live.LiveTables.select_named.Goals as goal

pub returns-in-Some : goal.returns-in-Some
returns-in-Some g c =
    let live = rw c.deref.ensures.value at c.in-Some.ensures in
    record {
      ran = λ faults. ran-as _ _ _ _ _ _ _ (select-named _ _ _ _ live.0 c.requires.ready live.1 live.2)
          (c.select.ensures.ran faults);
    }
