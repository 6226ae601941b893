-- The image with heads before chosen operations agrees and endures.
use Rattle.std.proofs.Common.{subst, ◌≡◌, ◌≢◌, ℕ, zero, suc, ◌+◌, ◌*◌, ◌<◌, ◌≤◌, List, [], ◌∷◌, ◌++◌, length, flat_map, refl, ap, arith, Bool, true, false}
use Rattle.std.specs.Prelude.{All}
use Rattle.board_table.specs.declared.board.Board.{Board}
use Rattle.ti_txt.specs.Image.{Block}
use Rattle.plain_meaning.specs.Behaviour.{Behaviour}
use Rattle.msp430_isa.specs.declared.instr.Instr.{Instr}
use Rattle.msp430_isa.specs.Encoding.{words_of}
use Rattle.msp430_machine.specs.Addresses.{code_start, reset_vector}
use Rattle.msp430_machine.specs.State.{State}
use Rattle.msp430_machine.specs.First.{IsFirst, HoldsBlocks}
use Rattle.power_core.specs.Agreement.{Agrees}
use Rattle.power_core.specs.Enduring.{Endures}
use Rattle.power_core.specs.Runs.{Event, Trail, Generous, RunOf}
use Rattle.power_core.proofs.Points.{Setting}
use Rattle.power_core.proofs.Stands.{words_front}
use Rattle.resumed_runs.specs.Code.{boot, head, size_of}
use Rattle.resumed_runs.specs.Carries.{Carries}
use Rattle.resumed_runs.specs.Counts.{IsCounted}
use Rattle.resumed_runs.specs.Bytes.{bytes_of}
use Rattle.resumed_runs.specs.Need.{wake_cost, sleep_cost}
use Rattle.resumed_runs.proofs.Agreeing.{setting, IsCarried, agree, each_charge_works, endure}
use Rattle.resumed_runs.proofs.Carrying.{Points, Tied}
use Rattle.resumed_runs.proofs.Paths.{Stand, stand, stand_front, stand_back}
use Rattle.resumed_runs.proofs.WordBytes.{words_from_bytes}
use Rattle.laid_code.specs.Flows.{Memory, On, Away, Flow}
use Rattle.laid_code.specs.Chosen.{Piece, head_size, head_code, chosen_code, chosen_at, head_at, template_of, chosen_blocks}
use Rattle.laid_code.proofs.ChosenHeads.{Position, Behind, Plan, budget, landing, chosen_layout, ChosenStands, Shown, chosen_carries, chosen_begins, chosen_ties}
use Rattle.laid_code.proofs.Following.{Tracking, Follows}
use Rattle.laid_code.proofs.Homes.{InFram, IsClear, Apart}
use Rattle.laid_code.proofs.Laid.{Here, effect_at, Performed}
use Rattle.laid_code.proofs.LaidRuns.{At}

-- ---- Each head and each template stands at its place

behind_head : (code : ℕ → ℕ) (k : ℕ) (c : Bool) (is : List Instr) → Stand code k (head_code c k ++ is) → Stand code (k + head_size c) is
behind_head code k true is h = stand_back code k (head (0x8000 + 2 * (k + 9))) is h
behind_head code k false is h = let e : k ≡ k + 0 = omega arith in subst (λ n. Stand code n is) e h

its_head : (code : ℕ → ℕ) (k : ℕ) (c : Bool) (is : List Instr) → c ≡ true → Stand code k (head_code c k ++ is) → Stand code k (head (0x8000 + 2 * (k + 9)))
its_head code k true is e h = stand_front code k (head (0x8000 + 2 * (k + 9))) is h
its_head code k false is e h = let no : false ≡ true = e in cc

pub head_stands : (code : ℕ → ℕ) (k : ℕ) (ps : List Piece) (i : ℕ) → i < length ps → head_at ps i ≡ true → Stand code k (chosen_code k ps) → Stand code (chosen_at k ps i) (head (0x8000 + 2 * (chosen_at k ps i + 9)))
head_stands code k [] i low has h = absurd (omega (arith, low))
head_stands code k (p ∷ ps) zero low has h = its_head code k p.has_head (p.template ++ chosen_code (k + head_size p.has_head + size_of p.template) ps) has h
head_stands code k (p ∷ ps) (suc i) low has h =
    head_stands code (k + head_size p.has_head + size_of p.template) ps i (omega (arith, low)) has
    (stand_back code (k + head_size p.has_head) p.template (chosen_code (k + head_size p.has_head + size_of p.template) ps) (behind_head code k p.has_head (p.template ++ chosen_code (k + head_size p.has_head + size_of p.template) ps) h))

pub template_stands : (code : ℕ → ℕ) (k : ℕ) (ps : List Piece) (i : ℕ) → i < length ps → Stand code k (chosen_code k ps) → Stand code (chosen_at k ps i + head_size (head_at ps i)) (template_of ps i)
template_stands code k [] i low h = absurd (omega (arith, low))
template_stands code k (p ∷ ps) zero low h =
    stand_front code (k + head_size p.has_head) p.template (chosen_code (k + head_size p.has_head + size_of p.template) ps)
    (behind_head code k p.has_head (p.template ++ chosen_code (k + head_size p.has_head + size_of p.template) ps) h)
template_stands code k (p ∷ ps) (suc i) low h =
    template_stands code (k + head_size p.has_head + size_of p.template) ps i (omega (arith, low))
    (stand_back code (k + head_size p.has_head) p.template (chosen_code (k + head_size p.has_head + size_of p.template) ps) (behind_head code k p.has_head (p.template ++ chosen_code (k + head_size p.has_head + size_of p.template) ps) h))

holds_back : (s : State) (xs ys : List Block) → HoldsBlocks s (xs ++ ys) → HoldsBlocks s ys
holds_back s [] ys h = h
holds_back s (x ∷ xs) ys h = holds_back s xs ys h.1

-- ---- What there is to show

-- operations are numbered as they are laid out
abbrev pub chosen_plan : (Q : Type 0) → List Piece → (Q → ℕ) → (Q → ℕ) → (Q → ℕ) → (ℕ → ℕ) → Plan Q
chosen_plan Q ts index weight left base = record { at = λ q. chosen_at 9 ts (index q); has_head = λ q. head_at ts (index q); weight = weight; left = left; base = base; is_there = λ q. index q < length ts }

-- each operation's template stands at its place, or behind its head
abbrev pub Templates : (Q : Type 0) → List Piece → (Q → ℕ) → (ℕ → ℕ) → Type 0
Templates Q ts index code = (q : Q) → index q < length ts → Stand code (chosen_at 9 ts (index q) + head_size (head_at ts (index q))) (template_of ts (index q))

module _ (Q : Type 0) (flow : Flow Q) (words : ℕ → ℕ) (b : Board) (whole : ℕ) (data_blocks : List Block) (ts : List Piece) (index : Q → ℕ) (weight left : Q → ℕ) (base : ℕ → ℕ)
    (program : Behaviour) (nodes : ℕ) (does : State → Behaviour) (Tracks : List ℕ → State → Tracking Q) (Shows : List ℕ → State → ℕ → State → Type 0) where
  abbrev plan : Plan Q
  plan = chosen_plan Q ts index weight left base

  abbrev blocks : List Block
  blocks = chosen_blocks data_blocks ts

  abbrev g : List ℕ → (ℕ → ℕ) → Setting
  g input code = setting b (chosen_blocks data_blocks ts) whole input code

  pub record IsChosenImage : Type 0 where
    -- main's first operation
    pub first : Q
    pub first_is : index first ≡ 0
    pub some : 0 < length ts
    pub first_head : head_at ts (index first) ≡ true
    pub room : length (flat_map words_of (boot ++ chosen_code 9 ts)) ≤ 0x3FC0
    pub fits : (q : Q) → index q < length ts → head_at ts (index q) ≡ true → wake_cost b + left q ≤ whole
    pub affords : (q : Q) → index q < length ts → weight q ≤ left q
    pub clear : (o : ℕ) → IsClear (InFram (base o)) (words o)
    pub apart : (o t : ℕ) → o ≢ t → Apart (InFram (base t)) (words t) (InFram (base o)) (words o)
    pub on : (input : List ℕ) (code : ℕ → ℕ) (q : Q) (m : Memory) (taken : ℕ) → index q < length ts → (effect_at (Position Q) Q flow words (chosen_layout Q plan (sleep_cost b)) (g input code) (Behind q) m taken).turn ≡ On
        → (index (flow.on q) < length ts) × (weight q + budget Q plan (sleep_cost b) (landing Q plan (sleep_cost b) (flow.on q)) ≤ left q)
    pub away : (input : List ℕ) (code : ℕ → ℕ) (q : Q) (m : Memory) (taken : ℕ) → index q < length ts → (effect_at (Position Q) Q flow words (chosen_layout Q plan (sleep_cost b)) (g input code) (Behind q) m taken).turn ≡ Away
        → (index (flow.away q) < length ts) × (weight q + budget Q plan (sleep_cost b) (landing Q plan (sleep_cost b) (flow.away q)) ≤ left q)
    -- the templates
    pub performs : (input : List ℕ) (code : ℕ → ℕ) → All (λ w. w < 65536) input → Templates Q ts index code → (q : Q) (m : Memory) (s : State) → ((o i : ℕ) → i < words o → m o i < 65536)
        → Here (Position Q) Q flow words (chosen_layout Q plan (sleep_cost b)) (g input code) (Behind q) m s
        → Performed (Position Q) Q flow words (chosen_layout Q plan (sleep_cost b)) (g input code) (Behind q) (landing Q plan (sleep_cost b) (flow.on q)) (landing Q plan (sleep_cost b) (flow.away q)) (weight q)
        (effect_at (Position Q) Q flow words (chosen_layout Q plan (sleep_cost b)) (g input code) (Behind q) m s.taken) s
    -- lowering: from each first state the flow is tracked, begins with what FRAM holds, and does what the program does
    pub follows : (input : List ℕ) (s : State) → All (λ w. w < 65536) input → IsFirst s → HoldsBlocks s (chosen_blocks data_blocks ts) → Follows Q flow (does s) input words (Tracks input s)
    pub begins : (input : List ℕ) (s : State) → All (λ w. w < 65536) input → IsFirst s → HoldsBlocks s (chosen_blocks data_blocks ts) → Tracks input s 0 first (λ o i. s.fram (base o + i)) 0 []
    pub carries : (input : List ℕ) (s : State) → All (λ w. w < 65536) input → IsFirst s → HoldsBlocks s (chosen_blocks data_blocks ts) → Carries program (does s) nodes input
    -- and states show where it is
    pub shows : (input : List ℕ) (s : State) → IsFirst s → HoldsBlocks s (chosen_blocks data_blocks ts) → (operations : ℕ) (u : State)
        → Shown Q flow words plan (g input s.code) (does s) (Tracks input s) operations u → Shows input s operations u

  module _ (is : IsChosenImage) where
    abbrev points : List ℕ → State → Points
    points input s = At (Position Q) Q flow words (chosen_layout Q plan (sleep_cost b)) (g input s.code) (does s) (Tracks input s)

    first_at : (ts' : List Piece) (i : ℕ) → i ≡ 0 → chosen_at 9 ts' i ≡ 9
    first_at [] i e = refl
    first_at (t ∷ ts') i e = ap (λ j. chosen_at 9 (t ∷ ts') j) e

    is_carried : (input : List ℕ) (s : State) → All (λ w. w < 65536) input → IsFirst s → HoldsBlocks s (chosen_blocks data_blocks ts) → IsCarried (g input s.code) (does s) (points input s) (Shows input s) s
    is_carried input s small first holds =
        let back = holds_back s data_blocks (record { start = code_start; bytes = bytes_of (flat_map words_of (boot ++ chosen_code 9 ts)) } ∷ record { start = reset_vector; bytes = bytes_of (code_start ∷ []) } ∷ []) holds.1 in
        let text = words_from_bytes s 0 (flat_map words_of (boot ++ chosen_code 9 ts)) back.0 in
        let all = stand s.code 0 (boot ++ chosen_code 9 ts) (let r = is.room in omega (arith, r)) text in
        let each : Stand s.code 9 (chosen_code 9 ts) = stand_back s.code 0 boot (chosen_code 9 ts) all in
        let stands : ChosenStands Q flow words plan (g input s.code) (does s) (Tracks input s) = record {
          heads = λ q low has. head_stands s.code 9 ts (index q) low has each;
          fits = is.fits;
          affords = is.affords;
          clear = is.clear;
          apart = is.apart;
          on = is.on input s.code;
          away = is.away input s.code;
          performs = is.performs input s.code small (λ q low. template_stands s.code 9 ts (index q) low each);
        } in
        let follow = is.follows input s small first holds in
        let ties : Tied (g input s.code) (points input s) (Shown Q flow words plan (g input s.code) (does s) (Tracks input s)) = chosen_ties Q flow words plan (g input s.code) (does s) (Tracks input s) is.clear in
        record {
          tied = record {
            works = λ need wakes operations put u point. is.shows input s first holds operations u (ties.works need wakes operations put u point);
            waits = λ left k sp taken operations f put u v opened resume resumed point off same.
                is.shows input s first holds operations v (ties.waits left k sp taken operations f put u v opened resume resumed point off same);
          };
          carried = chosen_carries Q flow words plan (g input s.code) (does s) (Tracks input s) stands follow;
          has_boot = record {
            text = words_front s.code 0 (flat_map words_of boot) (flat_map words_of (chosen_code 9 ts)) text;
            reset = omega (arith, back.1.0.0, back.1.0.1.0);
          };
          begun = chosen_begins Q flow words plan (g input s.code) (does s) (Tracks input s) stands follow is.first (let e = is.first_is in let n = is.some in omega (arith, e, n)) is.first_head (first_at ts (index is.first) is.first_is) s
              (omega (arith, holds.0.0, holds.0.1.0)) (omega (arith, holds.0.1.1.0, holds.0.1.1.1.0)) (omega (arith, holds.0.1.1.1.1.0, holds.0.1.1.1.1.1.0)) (is.begins input s small first holds);
        }

    pub chosen_agrees : whole ≤ b.budget → Agrees program nodes (chosen_blocks data_blocks ts) b
    chosen_agrees enough = agree b (chosen_blocks data_blocks ts) whole program nodes does is.carries points Shows is_carried enough

    -- each charge that another refill follows does at least one operation, and states show it
    pub chosen_works : whole ≤ b.budget → (input : List ℕ) (events : List Event) (t : Trail) → All (λ w. w < 65536) input → Generous b.budget events
        → (run : RunOf (chosen_blocks data_blocks ts) b input events t) → IsCounted b input (does run.0) (Shows input run.0) run.0 events t
    chosen_works enough input events t words generous run = each_charge_works b (chosen_blocks data_blocks ts) whole program nodes does is.carries points Shows is_carried enough input events t words generous run

    pub chosen_endures : Endures program nodes (chosen_blocks data_blocks ts) b
    chosen_endures = endure b (chosen_blocks data_blocks ts) whole program nodes does is.carries points Shows is_carried
