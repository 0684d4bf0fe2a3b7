use Rattle.std.proofs.Common.{rules}
use Rattle.doc_server.proofs.Growth.{grows-further, further-within}
use Rattle.doc_server.proofs.serve.write_all.Goals as goal

pub loop-sent-preserved : goal.loop-sent-preserved
loop-sent-preserved g c = record {
  within = further-within _ _ _ _ c.loop-sent.invariant.within c.tail.ensures c.in_ok-count.ensures.bound;
  taken = search rules;
  left = search rules;
  moments = search rules;
  read_faults = search rules;
  write_faults = search rules;
  written = grows-further _ _ _ _ _ _ _ c.loop-sent.invariant.within c.tail.ensures c.loop-sent.invariant.written
      c.in_ok-count.ensures.written;
}
