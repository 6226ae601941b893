-- A text is read to its end exactly where it is a certificate's, and else up to its first bad line.
use Rattle.std.proofs.Common.{◌≡◌, ◌∙◌, ◌+◌, ◌++◌, ◌⊎◌, ℕ, List, [], ◌∷◌, Option, Some, None, refl, sym, ap, ap₂, subst, length, inl, inr, append_assoc, append-nil, length-append}
use Rattle.std.proofs.lemmas.Bool.{cases_Bool, eqb-false}
use Rattle.std.specs.Str.{bytes_eq}
use Rattle.std.proofs.lemmas.Slice.Eq.{bytes_eq-Decides}
use Rattle.certificate.specs.declared.state.Stage.{Stage}
use Rattle.certificate.specs.declared.state.Stage.TheVariants as stage
use Rattle.certificate.specs.Rows.{Certificate}
use Rattle.certificate.specs.Line.{Line, rows_of}
use Rattle.certificate.specs.Grammar.{IsCertificate}
use Rattle.certificate.specs.Spelling.{fed_line, first_line, row_text, rows_text, text_of}
use Rattle.certificate.specs.Texts.{AreWhole, BadLineAt, Begins, Holds, Lacks}
use Rattle.certificate.specs.Fields.{after_mark, before_mark, parts_of}
use Rattle.certificate.specs.Reading.{Progress, Taken, behind_rows, fault_at_end, fed, going, read_line, read_lines, read_text, stopped, stopped_at}
use Rattle.certificate.proofs.Marks.{apart, none_not, some_is}
use Rattle.certificate.proofs.Lists.{part_alone, part_and}
use Rattle.certificate.proofs.Passing.{passes}
use Rattle.certificate.proofs.Pieces.{some_parts}
use Rattle.certificate.proofs.TwoPieces.{behind_none, go_on, stops, two_pieces}
use Rattle.certificate.proofs.Order.{AllRows, certificate_leads, certificate_rows, certificate_told, ending, ending_leads, ending_rows, rows_append, stages, stages_append, stages_later}
use Rattle.certificate.proofs.Told.{Goes, Stops, ToldBy, before_itself, read_on, text_told}

-- what is read of a whole text
abbrev pub read_all : List ℕ → (List Line × Progress)
read_all text = read_text stage.Header 0 text

abbrev pub behind_first : List ℕ → List ℕ
behind_first more = first_line ++ 10 ∷ more

first_lacks : Lacks 10 first_line
first_lacks = (refl, (refl, (refl, (refl, (refl, (refl, (refl, (refl, (refl, (refl, (refl, (refl, (refl, (refl, (refl, (refl, tt))))))))))))))))

first_read : (more : List ℕ) → read_all (behind_first more) ≡ read_text stage.Budget 17 more
first_read more =
    ap (read_lines stage.Header 0) (part_and 10 first_line more first_lacks)
    ∙ passes stage.Header 0 first_line _ (parts_of 10 more) (None, stage.Budget) (some_parts 10 more) refl refl

-- ---- A certificate's text is read to its end

held : (c : Certificate) → IsCertificate c → read_all (text_of c) ≡ (rows_of c, going stage.Ended [] (length (text_of c)))
held c h =
    let rows : List Line = rows_of c in
    let on = read_on rows stage.Budget stage.Ended 17 [] tt (certificate_rows c h) (certificate_leads c h) in
    let k : 17 + length (rows_text rows) ≡ length (text_of c) = sym (length-append (fed_line first_line) (rows_text rows)) in
    first_read (rows_text rows)
    ∙ ap (read_text stage.Budget 17) (sym (append-nil (rows_text rows)))
    ∙ on
    ∙ ap₂ (λ r k. (r, going stage.Ended [] k)) (append-nil rows) k

pub holds_read : (text : List ℕ) (c : Certificate) → Holds text c → read_all text ≡ (rows_of c, going stage.Ended [] (length text))
holds_read text c h = ap read_all h.spelt ∙ held c h.is ∙ ap (λ t. (rows_of c, going stage.Ended [] (length t))) (sym h.spelt)

-- ---- What a text begins with

-- no line feed, another first line, or the first line and what is behind it
pub data Cases (text : List ℕ) : Type 0 where
  alone : Lacks 10 text → read_all text ≡ ([], going stage.Header text 0) → Cases text
  other : (line behind : List ℕ) → text ≡ line ++ 10 ∷ behind → Lacks 10 line → read_line stage.Header line ≡ None → read_all text ≡ stopped_at 0 → Cases text
  first : (more : List ℕ) → text ≡ behind_first more → read_all text ≡ read_text stage.Budget 17 more → Cases text

other_read : (line behind : List ℕ) → Lacks 10 line → read_line stage.Header line ≡ None → read_all (line ++ 10 ∷ behind) ≡ stopped_at 0
other_read line behind l none = ap (read_lines stage.Header 0) (part_and 10 line behind l) ∙ stops stage.Header 0 line (parts_of 10 behind) (some_parts 10 behind) none

cut_cases : (text line behind : List ℕ) → text ≡ line ++ 10 ∷ behind → Lacks 10 line → Cases text
cut_cases text line behind e l = elim (cases_Bool (bytes_eq line first_line)) [
  | inl is ↦
      let k : text ≡ behind_first behind = e ∙ ap (λ x. x ++ 10 ∷ behind) ((bytes_eq-Decides line first_line).0 is) in
      first behind k (ap read_all k ∙ first_read behind)
  | inr unlike ↦
      let none : read_line stage.Header line ≡ None = rw unlike refl in
      other line behind e l none (ap read_all e ∙ other_read line behind l none)
]

pub cases_of : (text : List ℕ) → Cases text
cases_of text = elim (apart 10 text) [
  | inl cut ↦ cut_cases text (before_mark 10 text) (after_mark 10 text) cut (before_itself 10 text)
  | inr all ↦
      let l : Lacks 10 text = subst (Lacks 10) (sym all.0) (before_itself 10 text) in
      alone l (ap (read_lines stage.Header 0) (part_alone 10 text l))
]

-- ---- What was read to its end is a certificate's text

pub record HeldBy (text : List ℕ) (rows : List Line) : Type 0 where
  pub whole : Certificate
  pub holds : Holds text whole
  pub list : rows ≡ rows_of whole

pub rows_held : (rows : List Line) → AllRows rows → stages stage.Budget rows ≡ Some stage.Ended → HeldBy (fed_line first_line ++ rows_text rows) rows
rows_held rows all lead =
    let c = certificate_told rows lead all in
    record { whole = c.whole; holds = record { is = c.is; spelt = ap (λ r. fed_line first_line ++ rows_text r) c.list }; list = c.list }

ended_told : (more : List ℕ) (rows : List Line) (t : Stage) (line : List ℕ) (k : ℕ) → Goes stage.Budget 17 more rows t line k → t ≡ stage.Ended → line ≡ [] → HeldBy (behind_first more) rows
ended_told more rows t line k h e n =
    let all = h.all in
    let text : behind_first more ≡ fed_line first_line ++ rows_text rows = ap behind_first (h.spelt ∙ ap (λ l. rows_text rows ++ l) n ∙ append-nil (rows_text rows)) in
    subst (λ t. HeldBy t rows) (sym text) (rows_held rows all (h.lead ∙ ap (λ t. Some t) e))

stage_is : (s t : Stage) (a b : List ℕ) (k j : ℕ) → going s a k ≡ going t b j → (s ≡ t) × (a ≡ b) × (k ≡ j)
stage_is s t a b k j e = (cc, cc, cc)

pub not_both : {P : Type 0} (s : Stage) (a : List ℕ) (k j : ℕ) → stopped j ≡ going s a k → P
not_both s a k j e = absurd (cc)

by_progress : (more : List ℕ) (rows : List Line) (p : Progress) (k : ℕ) → ToldBy stage.Budget 17 more rows p → p ≡ going stage.Ended [] k → HeldBy (behind_first more) rows
by_progress more rows (going t line j) k h e = let s = stage_is t stage.Ended line [] j k e in ended_told more rows t line j h s.0 s.1
by_progress more rows (stopped j) k h e = not_both stage.Ended [] k j e

abbrev ending_at : Progress → ℕ → Type 0
ending_at p k = p ≡ going stage.Ended [] k

pub reads_held : (text : List ℕ) (k : ℕ) → ending_at (read_all text).1 k → HeldBy text (read_all text).0
reads_held text k e = elim (cases_of text) [
  | alone l r ↦ absurd (let s = stage_is stage.Header stage.Ended text [] 0 k (sym (ap (λ r. r.1) r) ∙ e) in let b = s.0 in cc)
  | other line behind is l none r ↦ not_both stage.Ended [] k 0 (sym (ap (λ r. r.1) r) ∙ e)
  | first more is r ↦
      let p = by_progress more (read_text stage.Budget 17 more).0 (read_text stage.Budget 17 more).1 k (text_told more stage.Budget 17 tt) (sym (ap (λ r. r.1) r) ∙ e) in
      record { whole = p.whole; holds = record { is = p.holds.is; spelt = is ∙ p.holds.spelt }; list = ap (λ r. r.0) r ∙ p.list }
]

-- ---- What begins a certificate's text

pub flat_append : (a b : List Line) → rows_text (a ++ b) ≡ rows_text a ++ rows_text b
flat_append [] b = refl
flat_append (r ∷ a) b = ap (λ t. fed_line (row_text r) ++ t) (flat_append a b) ∙ sym (append_assoc (fed_line (row_text r)) (rows_text a) (rows_text b))

begins : (rows : List Line) (t : Stage) → AllRows rows → stages stage.Budget rows ≡ Some t → Begins (fed_line first_line ++ rows_text rows)
begins rows t all lead =
    let more : List Line = ending t in
    let h = rows_held (rows ++ more) (rows_append rows more all (ending_rows t)) (stages_append rows more stage.Budget t lead ∙ ending_leads t (stages_later rows stage.Budget t tt lead)) in
    let text : (fed_line first_line ++ rows_text rows) ++ rows_text more ≡ fed_line first_line ++ rows_text (rows ++ more) =
    append_assoc (fed_line first_line) (rows_text rows) (rows_text more) ∙ ap (λ t. fed_line first_line ++ t) (sym (flat_append rows more)) in
    record { whole = h.whole; more = rows_text more; holds = record { is = h.holds.is; spelt = text ∙ h.holds.spelt } }

begins_nothing : Begins []
begins_nothing =
    let b = begins [] stage.Budget tt refl in
    record { whole = b.whole; more = (fed_line first_line ++ rows_text []) ++ b.more; holds = b.holds }

-- ---- Whole lines

whole_append : (a b : List ℕ) → AreWhole a → AreWhole b → AreWhole (a ++ b)
whole_append [] b p q = q
whole_append (x ∷ []) [] p q = p
whole_append (x ∷ []) (y ∷ b) p q = q
whole_append (x ∷ y ∷ a) b p q = whole_append (y ∷ a) b p q

whole_line : (line : List ℕ) → AreWhole (fed_line line)
whole_line [] = refl
whole_line (x ∷ []) = refl
whole_line (x ∷ y ∷ line) = whole_line (y ∷ line)

whole_rows : (rows : List Line) → AreWhole (rows_text rows)
whole_rows [] = tt
whole_rows (r ∷ rows) = whole_append (fed_line (row_text r)) (rows_text rows) (whole_line (row_text r)) (whole_rows rows)

whole_tail : (x : ℕ) (t : List ℕ) → AreWhole (x ∷ t) → AreWhole t
whole_tail x [] p = tt
whole_tail x (y ∷ t) p = p

whole_alone : (t : List ℕ) → AreWhole t → Lacks 10 t → t ≡ []
whole_alone [] p l = refl
whole_alone (x ∷ []) p l = absurd (eqb-false x 10 l.0 p)
whole_alone (x ∷ y ∷ t) p l = absurd (let n : y ∷ t ≡ [] = whole_alone (y ∷ t) p l.1 in cc)

whole_behind : (a t : List ℕ) → AreWhole (a ++ t) → Lacks 10 t → t ≡ []
whole_behind [] t p l = whole_alone t p l
whole_behind (x ∷ a) t p l = whole_behind a t (whole_tail x (a ++ t) p) l

-- ---- The first bad line

pub no_end : (text : List ℕ) (at : ℕ) (c : Certificate) → fault_at_end (read_all text).1 ≡ Some at → Holds text c → ⊥
no_end text at c e h =
    let k : fault_at_end (read_all text).1 ≡ None = ap (λ r. fault_at_end r.1) (holds_read text c h) in
    none_not at (sym k ∙ e)

-- where a line stops it, no text goes on
no_more : (front line : List ℕ) (k : ℕ) → ((behind : List ℕ) → (read_all (front ++ (line ++ 10 ∷ behind))).1 ≡ stopped k) → Begins (front ++ (line ++ 10 ∷ [])) → ⊥
no_more front line k stop b =
    let text : (front ++ (line ++ 10 ∷ [])) ++ b.more ≡ front ++ (line ++ 10 ∷ b.more) =
    append_assoc front (line ++ 10 ∷ []) b.more ∙ ap (λ t. front ++ t) (append_assoc line (10 ∷ []) b.more) in
    let r = holds_read _ b.whole b.holds in
    let s : (read_all ((front ++ (line ++ 10 ∷ [])) ++ b.more)).1 ≡ stopped k = ap (λ t. (read_all t).1) text ∙ stop b.more in
    not_both {P = ⊥} stage.Ended [] _ k (sym s ∙ ap (λ r. r.1) r)

abbrev front_of : List Line → List ℕ
front_of rows = fed_line first_line ++ rows_text rows

front_size : (rows : List Line) → 17 + length (rows_text rows) ≡ length (front_of rows)
front_size rows = sym (length-append (fed_line first_line) (rows_text rows))

front_text : (rows : List Line) (more t : List ℕ) → more ≡ rows_text rows ++ t → behind_first more ≡ front_of rows ++ t
front_text rows more t e = ap behind_first e ∙ sym (append_assoc (fed_line first_line) (rows_text rows) t)

-- what is read behind rows
behind_front : (rows : List Line) (t : Stage) (more : List ℕ) → AllRows rows → stages stage.Budget rows ≡ Some t
    → read_all (front_of rows ++ more) ≡ behind_rows rows (read_text t (17 + length (rows_text rows)) more)
behind_front rows t more all lead =
    ap read_all (append_assoc (fed_line first_line) (rows_text rows) more) ∙ first_read (rows_text rows ++ more) ∙ read_on rows stage.Budget t 17 more tt all lead

line_stops : (t : Stage) (k : ℕ) (line behind : List ℕ) → Lacks 10 line → read_line t line ≡ None → read_text t k (line ++ 10 ∷ behind) ≡ stopped_at k
line_stops t k line behind l none = ap (read_lines t k) (part_and 10 line behind l) ∙ stops t k line (parts_of 10 behind) (some_parts 10 behind) none

stops_told : (text more : List ℕ) (k : ℕ) → text ≡ behind_first more → Stops stage.Budget 17 more k → BadLineAt text k
stops_told text more k is h =
    let place = h.place ∙ front_size h.rows in
    record {
      before = front_of h.rows;
      line = h.line;
      behind = h.behind;
      place = place;
      starts = whole_append (fed_line first_line) (rows_text h.rows) (whole_line first_line) (whole_rows h.rows);
      one_line = h.one_line;
      good = begins h.rows h.to h.all h.lead;
      bad = inr (
        is ∙ front_text h.rows more (h.line ++ 10 ∷ h.behind) h.spelt,
        no_more (front_of h.rows) h.line (17 + length (rows_text h.rows)) (λ behind.
            ap (λ r. r.1) (behind_front h.rows h.to (h.line ++ 10 ∷ behind) h.all h.lead)
            ∙ ap (λ r. r.1) (line_stops h.to (17 + length (rows_text h.rows)) h.line behind h.one_line h.bad)),
      );
    }

goes_told : (text more : List ℕ) (rows : List Line) (t : Stage) (line : List ℕ) (k : ℕ) → text ≡ behind_first more → Goes stage.Budget 17 more rows t line k → ((c : Certificate) → Holds text c → ⊥) → BadLineAt text k
goes_told text more rows t line k is h never =
    record {
      before = front_of rows;
      line = line;
      behind = [];
      place = h.place ∙ front_size rows;
      starts = whole_append (fed_line first_line) (rows_text rows) (whole_line first_line) (whole_rows rows);
      one_line = h.one_line;
      good = begins rows t h.all h.lead;
      bad = inl (is ∙ front_text rows more line h.spelt, never);
    }

-- where going ends in a fault, it is at the unfinished line
fault_there : (t : Stage) (line : List ℕ) (k at : ℕ) → fault_at_end (going t line k) ≡ Some at → k ≡ at
fault_there stage.Header line k at e = some_is k at e
fault_there stage.Budget line k at e = some_is k at e
fault_there stage.First line k at e = some_is k at e
fault_there (stage.Functions low) line k at e = some_is k at e
fault_there (stage.Stretches low) line k at e = some_is k at e
fault_there (stage.Points low) line k at e = some_is k at e
fault_there stage.Ended [] k at e = none_not at e
fault_there stage.Ended (b ∷ line) k at e = some_is k at e

progress_told : (text more : List ℕ) (rows : List Line) (p : Progress) (at : ℕ) → text ≡ behind_first more → ToldBy stage.Budget 17 more rows p → fault_at_end p ≡ Some at
    → ((c : Certificate) → Holds text c → ⊥) → BadLineAt text at
progress_told text more rows (going t line k) at is h e never = subst (BadLineAt text) (fault_there t line k at e) (goes_told text more rows t line k is h never)
progress_told text more rows (stopped k) at is h e never = subst (BadLineAt text) (some_is k at e) (stops_told text more k is h)

pub bad_told : (text : List ℕ) (at : ℕ) → fault_at_end (read_all text).1 ≡ Some at → BadLineAt text at
bad_told text at e = elim (cases_of text) [
  | alone l r ↦
      let k : fault_at_end (going stage.Header text 0) ≡ Some at = sym (ap (λ r. fault_at_end r.1) r) ∙ e in
      record { before = []; line = text; behind = []; place = sym (fault_there stage.Header text 0 at k); starts = tt; one_line = l; good = begins_nothing; bad = inl (refl, λ c h. no_end text at c e h) }
  | other line behind is l none r ↦
      let k : fault_at_end (stopped 0) ≡ Some at = sym (ap (λ r. fault_at_end r.1) r) ∙ e in
      record {
        before = [];
        line = line;
        behind = behind;
        place = sym (some_is 0 at k);
        starts = tt;
        one_line = l;
        good = begins_nothing;
        bad = inr (is, no_more [] line 0 (λ behind. ap (λ r. r.1) (other_read line behind l none)));
      }
  | first more is r ↦
      progress_told text more (read_text stage.Budget 17 more).0 (read_text stage.Budget 17 more).1 at is (text_told more stage.Budget 17 tt) (sym (ap (λ r. fault_at_end r.1) r) ∙ e) (λ c h. no_end text at c e h)
]

-- ---- and there is no other

-- two pieces
pub pieces : (front piece : List ℕ) → read_all (front ++ piece) ≡ go_on (read_all front) piece
pieces front piece =
    ap (read_lines stage.Header 0) (sym (behind_none (parts_of 10 (front ++ piece))))
    ∙ two_pieces piece front stage.Header 0 [] tt
    ∙ ap (λ parts. go_on (read_lines stage.Header 0 parts) piece) (behind_none (parts_of 10 front))

-- where whole lines begin a certificate's text, nothing is left of them
pub record Clear (before : List ℕ) (p : Progress) : Type 0 where
  pub next : Stage
  pub is : p ≡ going next [] (length before)

goes_clear : (before more : List ℕ) (rows : List Line) (t : Stage) (line : List ℕ) (k : ℕ) → before ≡ behind_first more → AreWhole before → Goes stage.Budget 17 more rows t line k → Clear before (going t line k)
goes_clear before more rows t line k is w h =
    let text : before ≡ front_of rows ++ line = is ∙ front_text rows more line h.spelt in
    let n : line ≡ [] = whole_behind (front_of rows) line (subst AreWhole text w) h.one_line in
    let size : k ≡ length before = h.place ∙ front_size rows ∙ ap length (sym (append-nil (front_of rows))) ∙ ap (λ l. length (front_of rows ++ l)) (sym n) ∙ ap length (sym text) in
    record { next = t; is = λ i. going t (n i) (size i) }

clear_by : (before more : List ℕ) (rows : List Line) (p : Progress) → before ≡ behind_first more → AreWhole before → ToldBy stage.Budget 17 more rows p → ((k : ℕ) → p ≡ stopped k → ⊥) → Clear before p
clear_by before more rows (going t line k) is w h on = goes_clear before more rows t line k is w h
clear_by before more rows (stopped k) is w h on = absurd (on k refl)

begun_on : (before : List ℕ) → Begins before → (k : ℕ) → (read_all before).1 ≡ stopped k → ⊥
begun_on before b k e =
    let r = ap (λ r. r.1) (holds_read (before ++ b.more) b.whole b.holds) in
    let p = ap (λ r. r.1) (pieces before b.more) in
    let s : (fed (read_all before).1 b.more).1 ≡ stopped k = ap (λ p. (fed p b.more).1) e in
    not_both {P = ⊥} stage.Ended [] _ k (sym s ∙ sym p ∙ r)

clear_of : (before : List ℕ) → AreWhole before → Begins before → Clear before (read_all before).1
clear_of before w b = elim (cases_of before) [
  | alone l r ↦
      let n : before ≡ [] = whole_alone before w l in
      record { next = stage.Header; is = ap (λ r. r.1) r ∙ (λ i. going stage.Header (n i) (length (sym n i))) }
  | other line behind is l none r ↦ absurd (begun_on before b 0 (ap (λ r. r.1) r))
  | first more is r ↦
      let e = ap (λ r. r.1) r in
      let c = clear_by before more (read_text stage.Budget 17 more).0 (read_text stage.Budget 17 more).1 is w (text_told more stage.Budget 17 tt) (λ k z. begun_on before b k (e ∙ z)) in
      record { next = c.next; is = e ∙ c.is }
]

-- what is read behind whole lines that begin a certificate's text
on_from : (before : List ℕ) (c : Clear before (read_all before).1) (more : List ℕ) → (read_all (before ++ more)).1 ≡ (read_text c.next (length before) more).1
on_from before c more = ap (λ r. r.1) (pieces before more) ∙ ap (λ p. (fed p more).1) c.is

-- what goes on to an empty line begins a certificate's text
going_by : (more : List ℕ) (rows : List Line) (p : Progress) (t : Stage) (k : ℕ) → ToldBy stage.Budget 17 more rows p → p ≡ going t [] k → Begins (behind_first more)
going_by more rows (going u line j) t k h e =
    let s = stage_is u t line [] j k e in
    let text : behind_first more ≡ front_of rows = front_text rows more line h.spelt ∙ ap (λ l. front_of rows ++ l) s.1 ∙ append-nil (front_of rows) in
    subst Begins (sym text) (begins rows u h.all h.lead)
going_by more rows (stopped j) t k h e = not_both t [] k j e

going_begins : (text : List ℕ) (t : Stage) (k : ℕ) → (read_all text).1 ≡ going t [] k → Begins text
going_begins text t k e = elim (cases_of text) [
  | alone l r ↦ let s = stage_is stage.Header t text [] 0 k (sym (ap (λ r. r.1) r) ∙ e) in subst Begins (sym s.1) begins_nothing
  | other line behind is l none r ↦ not_both t [] k 0 (sym (ap (λ r. r.1) r) ∙ e)
  | first more is r ↦
      subst Begins (sym is) (going_by more (read_text stage.Budget 17 more).0 (read_text stage.Budget 17 more).1 t k (text_told more stage.Budget 17 tt) (sym (ap (λ r. r.1) r) ∙ e))
]

-- what is left at the end of a text is its fault, or the text has ended
end_cases : (t : Stage) (line : List ℕ) (k : ℕ) → (fault_at_end (going t line k) ≡ Some k) ⊎ (going t line k ≡ going stage.Ended [] k)
end_cases stage.Header line k = inl refl
end_cases stage.Budget line k = inl refl
end_cases stage.First line k = inl refl
end_cases (stage.Functions low) line k = inl refl
end_cases (stage.Stretches low) line k = inl refl
end_cases (stage.Points low) line k = inl refl
end_cases stage.Ended [] k = inr refl
end_cases stage.Ended (b ∷ line) k = inl refl

end_bad : (text before line : List ℕ) (c : Clear before (read_all before).1) → text ≡ before ++ line → Lacks 10 line → ((d : Certificate) → Holds text d → ⊥) → fault_at_end (read_all text).1 ≡ Some (length before)
end_bad text before line c e l never =
    let r : (read_all text).1 ≡ going c.next line (length before) =
    ap (λ t. (read_all t).1) e ∙ on_from before c line ∙ ap (λ parts. (read_lines c.next (length before) parts).1) (part_alone 10 line l) in
    elim (end_cases c.next line (length before)) [
      | inl fault ↦ ap fault_at_end r ∙ fault
      | inr over ↦ absurd (let h = reads_held text (length before) (r ∙ over) in never h.whole h.holds)
    ]

line_bad : (before line behind : List ℕ) (c : Clear before (read_all before).1) → Lacks 10 line → (Begins (before ++ (line ++ 10 ∷ [])) → ⊥) → (o : Option Taken) → read_line c.next line ≡ o
    → (read_all (before ++ (line ++ 10 ∷ behind))).1 ≡ stopped (length before)
line_bad before line behind c l never None e = on_from before c (line ++ 10 ∷ behind) ∙ ap (λ r. r.1) (line_stops c.next (length before) line behind l e)
line_bad before line behind c l never (Some t) e =
    let k : ℕ = length before in
    let r : (read_all (before ++ (line ++ 10 ∷ []))).1 ≡ going t.1 [] (k + length line + 1) =
    on_from before c (line ++ 10 ∷ []) ∙ ap (λ parts. (read_lines c.next k parts).1) (part_and 10 line [] l)
    ∙ ap (λ r. r.1) (passes c.next k line _ (parts_of 10 []) t (some_parts 10 []) refl e) in
    absurd (never (going_begins (before ++ (line ++ 10 ∷ [])) t.1 (k + length line + 1) r))

pub bad_only : (text : List ℕ) (at : ℕ) → BadLineAt text at → fault_at_end (read_all text).1 ≡ Some at
bad_only text at b =
    let c = clear_of b.before b.starts b.good in
    elim b.bad [
      | inl end ↦ end_bad text b.before b.line c end.0 b.one_line end.1 ∙ ap (λ k. Some k) (sym b.place)
      | inr stop ↦
          ap (λ t. fault_at_end (read_all t).1) stop.0
          ∙ ap fault_at_end (line_bad b.before b.line b.behind c b.one_line stop.1 (read_line c.next b.line) refl)
          ∙ ap (λ k. Some k) (sym b.place)
    ]

-- where nothing is at fault at the end, the text has ended
pub none_ends : (p : Progress) → fault_at_end p ≡ None → (k : ℕ) × (p ≡ going stage.Ended [] k)
none_ends (going stage.Header line k) e = none_not k (sym e)
none_ends (going stage.Budget line k) e = none_not k (sym e)
none_ends (going stage.First line k) e = none_not k (sym e)
none_ends (going (stage.Functions low) line k) e = none_not k (sym e)
none_ends (going (stage.Stretches low) line k) e = none_not k (sym e)
none_ends (going (stage.Points low) line k) e = none_not k (sym e)
none_ends (going stage.Ended [] k) e = (k, refl)
none_ends (going stage.Ended (b ∷ line) k) e = none_not k (sym e)
none_ends (stopped k) e = none_not k (sym e)

pub fault_held : (text : List ℕ) → fault_at_end (read_all text).1 ≡ None → HeldBy text (read_all text).0
fault_held text e = let k = none_ends (read_all text).1 e in reads_held text k.0 k.1
