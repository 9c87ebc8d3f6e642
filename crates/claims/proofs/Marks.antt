-- Words from heard marks, and the report made of them, read back. Assumes nothing.
--     marks-covered, report-read, report-calls     the claims
use Rattle.std.specs.Prelude.{Ok, Err}
use Prim.Native.Nat.{ℕ, ◌≤◌}
use mathlib.Core.Path.{◌≡◌, refl, sym, subst, ◌∙◌}
use mathlib.Core.List.{List, [], ◌∷◌, ◌++◌}
use native.Mathlib.Omega.{arith}
use lib.ListN.{take}
use lib.Seq.{take-append_seam}
use Rattle.def_refusals.specs.Answers.{Or}
use Rattle.def_wire.specs.declared.Reading.{Reading}
use Rattle.def_wire.specs.declared.Reading.TheVariants.{Standard, Crate}
use Rattle.def_wire.specs.declared.Rle.TheVariants.{Loss}
use Rattle.def_wire.specs.Packet.{view_of}
use Rattle.def_standard.specs.Chunks.{covers_of}
use Rattle.def_jobs.specs.declared.Layout.{Layout}
use Rattle.def_jobs.specs.declared.Layout.TheVariants.{Careful}
use Rattle.def_jobs.specs.Shown.{Record, reported}
use Rattle.def_jobs.specs.Jobs.{Job}
use Rattle.def_jobs.specs.Layout.{block_bytes, blocks_bytes, layout_of}
use Rattle.def_jobs.specs.Writing.{packet_of}
use Rattle.def_marks.specs.Marks.{words_of, marks_fault, marks_asked}
use Rattle.def_marks.specs.Report.{end_of, report_of, heard_of}
use Rattle.marked.specs.Marked.{Marks}
use Rattle.marked.proofs.FaultLaws.{marks-fine, fault-few, fault-fine, asked-fine, asked-unfit}
use Rattle.marked.proofs.WordsLaws.{words-few}
use Rattle.heard.proofs.ValuesLaws.{values-words, covers-behind, words-cover}
use Rattle.heard.proofs.HeardLaws.{heard_fields}
use Rattle.heard.proofs.ListLaws.{header_job, loss_job, list-bytes, header-sender}
use Rattle.heard.proofs.ReportLaws.{report-jobs, report-fit, report-written, report-asks, report-old}
use Rattle.heard.proofs.ReportLaws.{bodies-are}
use Rattle.written.proofs.RecordsLaws.{not-shown}
use Rattle.written.proofs.Shows.{written-shows}
use Rattle.old_readers.proofs.PacketLaws.{crate-view}
use Rattle.claims.specs.RoundTrip.{Answered, ReadBack}
use Rattle.claims.specs.Marks.{Covers, MarksCovered, Asked, Heard, Report, ReportRead, ReportCalls}
use Rattle.claims.proofs.Taken.{listed-taken, shown-taken}
use Rattle.claims.proofs.Answered.{shown-answered}
use Rattle.claims.proofs.RoundTrip.{reads-back}

-- ---- the words

-- marks that are not refused
pub fine-asked : (ms ws : List ℕ) → marks_asked ms ≡ Ok ws → (marks_fault ms ≡ Ok tt) × (words_of ms ≡ ws)
fine-asked ms ws e = by-fault (marks_fault ms) refl
  where
    by-fault : (c : Or (Unit {0})) → marks_fault ms ≡ c → (marks_fault ms ≡ Ok tt) × (words_of ms ≡ ws)
    by-fault (Ok _) f = (f, let i : Ok (words_of ms) ≡ Ok ws = sym (asked-fine ms f) ∙ e in cc)
    by-fault (Err x) f = not-shown (sym (asked-unfit ms x f) ∙ e)

words-covered : (ms : List ℕ) → Marks ms → Covers ms (words_of ms)
words-covered ms marks =
    record {
      marks = rw (values-words ms marks) (take-append_seam ms _);
      behind = covers-behind ms marks;
      some = λ i h. let c = words-cover ms marks i h in (
        (λ e. absurd (let z : 15 ≤ covers_of 0 = rw e at c in omega arith)),
        (λ e. absurd (let z : 15 ≤ covers_of 16384 = rw e at c in omega arith)),
      );
      few = let w = words-few ms in omega arith;
    }

pub marks-covered : MarksCovered
marks-covered ms out out' n p =
    let e = fine-asked ms (take n out') (listed-taken out out' n (marks_asked ms) p) in
    subst (Covers ms) e.1 (words-covered ms (fault-fine ms e.0).1)

-- ---- the report

module _ (sender media b : ℕ) (ms : List ℕ) (a : Asked sender media b ms) where
  -- its record, what it asks, and the packet
  abbrev loss : Job
  loss = loss_job media b (end_of b ms) (words_of ms)

  abbrev asked : Record
  asked = reported Loss (heard_fields media b ms) (heard_of b ms)

  abbrev laid : Layout → List ℕ
  laid layout = layout_of layout (header_job sender ∷ loss ∷ [])

  written : (layout : Layout) → packet_of layout (report_of sender media b ms) ≡ Ok (laid layout)
  written = report-written sender media b ms a.media32 a.begin16 a.few a.marks

  -- what the answers come to
  heard : (r : Reading) (s : List ℕ) → Answered r s 0 asked → Heard r media b ms s
  heard r s e = record { fields = e.0; numbers = e.1 }

  back : (layout : Layout) → ReadBack (header_job sender ∷ loss ∷ []) (laid layout)
  back layout =
      subst (λ (js : List Job). ReadBack js (laid layout))
      (report-jobs sender media b ms a.media32 a.begin16 a.few a.marks)
      (reads-back (written-shows layout (report_of sender media b ms) (laid layout)
      (list-bytes sender media b (end_of b ms) (words_of ms)) (written layout)))

  by-standard : (layout : Layout) → Heard Standard media b ms (laid layout)
  by-standard layout =
      heard Standard (laid layout)
      (rw (report-asks sender media b ms a.media32 a.begin16 a.few a.marks) at
      ((back layout).answered 0 (omega arith)))

  old-view : view_of Crate (laid Careful) 0 ≡ Ok (block_bytes Careful loss ++ [])
  unfolding blocks_bytes
  old-view =
      let body = bodies-are sender media b ms a.media32 a.begin16 a.few a.marks in
      crate-view (header_job sender) (loss ∷ []) (laid Careful)
      (report-fit sender media b ms a.media32 a.begin16 a.few a.marks Careful) body.0 body.1 refl
      (omega arith) 0 (omega arith)

  by-crate : Heard Crate media b ms (laid Careful)
  by-crate =
      heard Crate (laid Careful)
      (shown-answered Crate (laid Careful) 0 asked (Ok (block_bytes Careful loss ++ [])) old-view
      (λ e. let z : ◌≡◌ {A = ℕ} 0 1 = cc in omega arith)
      (report-old sender media b ms a.media32 a.begin16 a.few a.marks))

  read : (layout : Layout) → Report layout sender media b ms (laid layout)
  read layout =
      record {
        parsed = rw (header-sender sender a.sender32) at (back layout).parsed;
        standard = by-standard layout;
        crate = λ e. rw e by-crate;
      }

pub report-read : ReportRead
report-read layout sender media b ms a = (
  asked-fine ms (fault-few ms a.few ∙ marks-fine 0 ms a.marks),
  record {
    packet = laid sender media b ms a layout;
    written = written sender media b ms a layout;
    read = read sender media b ms a layout;
  },
)

pub report-calls : ReportCalls
report-calls layout sender media b ms a words words' n p list list' m q out out' k r =
    let w = report-read layout sender media b ms a in
    let e : words_of ms ≡ take n words' = shown-taken words words' n (words_of ms) (rw w.0 at p) in
    let f : report_of sender media b ms ≡ take m list' =
    shown-taken list list' m (report_of sender media b ms) (rw e q) in
    let g : w.1.packet ≡ take k out' =
    shown-taken out out' k w.1.packet (rw (← w.1.written, f) r) in
    subst (Report layout sender media b ms) g w.1.read
