use Rattle.std.proofs.Common.{◌∙◌}
use Rattle.doc_server.specs.Talk.{scene}
use Rattle.doc_server.proofs.Whole.{headlines, ends-fresh}
use Rattle.doc_server.proofs.program.ferret.Goals as goal

pub returns-in-Ok-clause-headline : goal.returns-in-Ok-clause-headline
returns-in-Ok-clause-headline g c =
    let link = c.console.ensures in
    let piped = c.serve_pipe-piped.ensures in
    let opened = c.in-Ok.ensures in
    headlines _ _ _ _ _ c.serve_pipe-piped.result.ended c.serve_pipe-piped.result.tables
    (λ e. scene (g.W.Console.Gate.taken e.link) (g.W.Console.Gate.left e.link) (g.W.Console.Gate.written e.link)
    (g.W.Console.Gate.moments e.link)) (λ e. e.why) (λ e. e.commands) (λ it. it.past.seen) (λ it. it.object.state)
    (λ it. g.W.Keeper.Keeper.faults it.object.keeper) piped.pipes piped.ends link.fresh.taken link.fresh.written link.fresh.moments
    (link.input ∙ opened.input) opened.first opened.loaded

pub returns-in-Ok-clause-ends : goal.returns-in-Ok-clause-ends
returns-in-Ok-clause-ends g c =
    let link = c.console.result in
    let fresh = c.console.ensures in
    ends-fresh _
    (scene (g.W.Console.Gate.taken link) (g.W.Console.Gate.left link) (g.W.Console.Gate.written link) (g.W.Console.Gate.moments link))
    c.serve_pipe-piped.result.ended
    (λ e. scene (g.W.Console.Gate.taken e.link) (g.W.Console.Gate.left e.link) (g.W.Console.Gate.written e.link)
    (g.W.Console.Gate.moments e.link)) (λ e. e.why) c.serve_pipe-piped.ensures.ends fresh.fresh.taken
    (fresh.input ∙ c.in-Ok.ensures.input)
