use Rattle.std.proofs.Common.{◌≡◌, ◌≤◌, ◌+◌, false, List, length}
use Rattle.doc_model.specs.declared.op.OpReply.{OpReply}
use Rattle.reply_words.specs.Small.{AreShort}
use Rattle.dispatcher.specs.Answering.{DidItems}
use Rattle.dispatcher.proofs.writing.write_all.Given as goal

abbrev pub invariant-loop-op : goal.invariant-loop-op
invariant-loop-op g l = record {
  free : g.T.TableDesk.held l.tables ≡ false;
  opening : g.T.TableDesk.opening l.tables ≡ g.T.TableDesk.opening l.initial.tables;
  first : g.T.TableDesk.first l.tables ≡ g.T.TableDesk.first l.initial.tables;
  spare : length l.fn.ops ≤ length l.yielded + l.ends.spare;
  short : AreShort l.ends.items;
  number : l.who.op ≡ l.initial.who.op + length l.yielded;
  items : (replies : List OpReply) × DidItems (g.T.TableDesk.opening l.initial.tables) (g.T.TableDesk.at l.initial.tables)
      (g.T.TableDesk.at l.tables) l.initial.who l.who l.now l.ordered l.yielded l.ends.items replies;
}
