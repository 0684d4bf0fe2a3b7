use Rattle.doc_server.proofs.Histories.{closed}
use Rattle.doc_server.proofs.pipe.serve_pipe.Goals as goal

pub returns-clause-pipes : goal.returns-clause-pipes
returns-clause-pipes g c =
    let solo = c.in-Ok.ensures in
    let served = c.serve_link-ended.ensures in
    let end = c.close.ensures in
    closed _ _ _ _ _ _ _ _ _ _ _ c.new-desk.result c.serve_link-ended.new.tables solo.opening solo.first solo.at c.new-desk.ensures
    served.opening served.first c.part.ensures end.past end.own end.legal end.object end.faults served.talks
