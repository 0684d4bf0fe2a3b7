-- The whole history of one connection.
use Rattle.std.proofs.Common.{◌≡◌, ℕ, List, length, ap, sym, subst, ◌∙◌}
use Rattle.history_lock.specs.Logged.{nothing}
use Rattle.history_lock.specs.Places.{AllPlaces}
use Rattle.history_lock.specs.Legal.{count_after, legal, replay}
use Rattle.history_lock.specs.Seats.{Sitting}
use Rattle.history_lock.proofs.Owning.{all-own}
use Rattle.table_words.specs.declared.call.TableCall.{TableCall}
use Rattle.table_words.specs.declared.call.TableReply.{TableReply}
use Rattle.table_words.specs.Tables.{Tables}
use Rattle.table_words.specs.Step.{tstep, tables_after}
use Rattle.shared_books.specs.Desks.{SoloDesk, fresh}
use Rattle.doc_model.specs.Run.{Done}
use Rattle.doc_history.specs.Told.{told, told_part}
use Rattle.doc_history.specs.Part.{Views, Served}
use Rattle.doc_history.proofs.Parts.{law_wholes}
use Rattle.doc_history.proofs.Tales.{law_tells}
use Rattle.dispatcher.specs.Script.{ops_from}
use Rattle.doc_server.specs.declared.why.Why.{Why}
use Rattle.doc_server.specs.Talk.{Scene, Talks}
use Rattle.doc_server.specs.Pipe.{Pipes}

-- what a seat alone did is all that a history tells
told-alone : (s : Tables) (v : Views) (ds : List Done) → AllPlaces v.own (length v.seen) → Served s nothing v ds → told s v.seen ds
told-alone s v ds all served =
    law_wholes s v.seen v.own ds (all-own v.own (length v.seen) all)
    (subst (λ own. told_part s v.seen own ds) (sym served.own) served.told)

-- the history that was closed
closes : (s : Tables) (n : ℕ) (old new : Scene) (first last past : Views) (left : Tables) (m : ℕ) (why : Why) (commands : ℕ)
    → first ≡ nothing → past ≡ last → AllPlaces past.own (length past.seen) → legal tstep tables_after s n past.seen
    → left ≡ replay tables_after s past.seen → m ≡ count_after n past.seen → Talks s 0 0 old new first last why commands
    → Pipes s n past.seen left m old new why commands
closes s n old new first last past left m why commands none is all lawful leaves counts talks =
    let ds : List Done = ops_from 0 0 0 talks.1 in
    let served : Served s nothing past ds = subst (λ v. Served s v past ds) none (subst (λ v. Served s first v ds) (sym is) talks.4) in
    let tells : told s past.seen ds = told-alone s past ds all served in (
      talks.0,
      talks.1,
      talks.2,
      talks.3,
      record { lawful = lawful; tells = tells; tale = law_tells s past.seen ds tells; leaves = leaves; counts = counts },
    )

-- the same with what the code names: the history of a desk that nobody else had
module _ (s left : Tables) (n m : ℕ) (old new : Scene) (past : Views) (why : Why) (commands : ℕ)
    (solo seat : Sitting Tables TableCall TableReply) (desk desk' : SoloDesk) where
  pub closed : solo.history.opening ≡ s → solo.history.first ≡ n → solo.at ≡ nothing → desk ≡ fresh solo
      → desk'.seat.history.opening ≡ desk.seat.history.opening → desk'.seat.history.first ≡ desk.seat.history.first → seat ≡ desk'.seat
      → past ≡ seat.at → AllPlaces past.own (length past.seen)
      → legal tstep tables_after seat.history.opening seat.history.first past.seen
      → left ≡ replay tables_after seat.history.opening past.seen → m ≡ count_after seat.history.first past.seen
      → Talks desk.seat.history.opening 0 0 old new desk.seat.at desk'.seat.at why commands
      → Pipes s n past.seen left m old new why commands
  closed opening first at made opening' first' parted past_is all lawful leaves counts talks =
      let was : desk.seat.history.opening ≡ s = ap (λ (d : SoloDesk). d.seat.history.opening) made ∙ opening in
      let is : seat.history.opening ≡ s
      = ap (λ (x : Sitting Tables TableCall TableReply). x.history.opening) parted ∙ opening' ∙ was in
      let counted : seat.history.first ≡ n
      = ap (λ (x : Sitting Tables TableCall TableReply). x.history.first) parted ∙ first'
      ∙ ap (λ (d : SoloDesk). d.seat.history.first) made ∙ first in
      closes s n old new desk.seat.at desk'.seat.at past left m why commands (ap (λ (d : SoloDesk). d.seat.at) made ∙ at)
      (past_is ∙ ap (λ (x : Sitting Tables TableCall TableReply). x.at) parted) all
      (subst (λ k. legal tstep tables_after s k past.seen) counted
      (subst (λ x. legal tstep tables_after x seat.history.first past.seen) is lawful))
      (subst (λ x. left ≡ replay tables_after x past.seen) is leaves) (subst (λ k. m ≡ count_after k past.seen) counted counts)
      (subst (λ x. Talks x 0 0 old new desk.seat.at desk'.seat.at why commands) was talks)
