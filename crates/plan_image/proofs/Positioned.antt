-- Where the code of positions stands, and their addresses.
use Rattle.std.proofs.Common.{◌≡◌, ℕ, suc, ◌+◌, ◌≤◌, List, [], ◌∷◌, ◌++◌, length, refl, sym, ap, ◌∙◌, subst, arith, append_assoc, length-append}
use Rattle.msp430_isa.specs.declared.instr.Instr.{Instr}
use Rattle.flow_graph.specs.declared.graph.Op.{Op}
use Rattle.flow_graph.specs.declared.graph.OpKind.{OpKind}
use Rattle.flow_graph.specs.declared.graph.OpKind.TheVariants as kind
use Rattle.resumed_runs.specs.Code.{size_of}
use Rattle.resumed_runs.proofs.Paths.{Stand, stand_front, stand_back}
use Rattle.op_cost.specs.Templates.{Homes, code_of, template_by}
use Rattle.each_image.proofs.Places.{size-append}
use Rattle.chain_units.specs.Known.{Known}
use Rattle.plan_code.specs.Sections.{Section}
use Rattle.plan_code.specs.Positions.{Does, Position, Restores, Saves, Sets, Sleeps, Turns, What, positions_from, section_positions, target_of}
use Rattle.plan_code.specs.PlanBlocks.{code_by, code_from, end_of, word_of, words_at}

-- no template's length depends on the place gone to
steady_by : (k : OpKind) (homes : Homes) (a b : ℕ) (op : Op) → size_of (code_of (template_by k homes a op)) ≡ size_of (code_of (template_by k homes b op))
steady_by kind.Test homes a b op = refl
steady_by kind.Below homes a b op = refl
steady_by kind.Go homes a b op = refl
steady_by kind.Call homes a b op = refl
steady_by k homes a b op = refl

module _ (k : Known) where
  -- no position's words depend on where it stands or jumps to
  pub steady_at : (s : Section) (here target : ℕ) (w : What) → size_of (code_by k s here target w) ≡ size_of (code_by k s 0 0 w)
  steady_at s here target Sleeps = refl
  steady_at s here target (Restores o) = refl
  steady_at s here target (Sets turns) = refl
  steady_at s here target (Does x) = steady_by x.op.kind _ target 0 x.op
  steady_at s here target Turns = refl
  steady_at s here target (Saves o) = refl

  -- ---- Ends

  pub end-append : (here : ℕ) (xs ys : List Position) → end_of k here (xs ++ ys) ≡ end_of k (end_of k here xs) ys
  end-append here [] ys = refl
  end-append here (x ∷ xs) ys = end-append (here + words_at k x) xs ys

  pub end_above : (here : ℕ) (xs : List Position) → here ≤ end_of k here xs
  end_above here [] = omega arith
  end_above here (x ∷ xs) = let h = end_above (here + words_at k x) xs in omega (arith, h)

  -- the word of a position behind others
  pub word-append : (here : ℕ) (xs ys : List Position) (i : ℕ) → word_of k here (xs ++ ys) (length xs + i) ≡ word_of k (end_of k here xs) ys i
  word-append here [] ys i = let e : 0 + i ≡ i = omega arith in ap (λ n. word_of k here ys n) e
  word-append here (x ∷ xs) ys i =
      let e : length (x ∷ xs) + i ≡ suc (length xs + i) = omega arith in
      ap (λ n. word_of k here (x ∷ (xs ++ ys)) n) e ∙ word-append (here + words_at k x) xs ys i

  pub word_first : (here : ℕ) (ys : List Position) → word_of k here ys 0 ≡ here
  word_first here [] = refl
  word_first here (y ∷ ys) = refl

  -- so it stands where those before it end
  pub word_at : (here : ℕ) (xs ys : List Position) → word_of k here (xs ++ ys) (length xs) ≡ end_of k here xs
  word_at here xs ys = let e : length xs ≡ length xs + 0 = omega arith in ap (λ n. word_of k here (xs ++ ys) n) e ∙ word-append here xs ys 0 ∙ word_first (end_of k here xs) ys

  -- ---- Sections

  -- the positions of sections behind others
  pub positions-append : (at : ℕ) (ss ts : List Section) → positions_from k at (ss ++ ts) ≡ positions_from k at ss ++ positions_from k (at + length (positions_from k at ss)) ts
  positions-append at [] ts = let e : at ≡ at + 0 = omega arith in ap (λ n. positions_from k n ts) e
  positions-append at (s ∷ ss) ts =
      let here = section_positions k at s in
      let next : ℕ = at + length here in
      let rest = positions_from k next ss in
      let e : next + length rest ≡ at + length (here ++ rest) = (let n = length-append here rest in omega (arith, n)) in
      ap (λ (ps : List Position). here ++ ps) (positions-append next ss ts ∙ ap (λ n. rest ++ positions_from k n ts) e) ∙ sym (append_assoc here rest (positions_from k (at + length (here ++ rest)) ts))

  module _ (ss : List Section) (address : ℕ → ℕ) (code : ℕ → ℕ) where
    pub size_is : (here : ℕ) (ps : List Position) → here + size_of (code_from k ss address here ps) ≡ end_of k here ps
    size_is here [] = let e : here + 0 ≡ here = omega arith in e
    size_is here (p ∷ ps) =
        let first : List Instr = code_by k p.section here (address (target_of k ss p.goal)) p.what in
        let both = size-append first (code_from k ss address (here + words_at k p) ps) in
        let same = steady_at p.section here (address (target_of k ss p.goal)) p.what in
        let rest = size_is (here + words_at k p) ps in
        omega (arith, both, same, rest)

    -- the code of a position stands where it is to
    pub position_stands : (here : ℕ) (xs : List Position) (p : Position) (ys : List Position) → Stand code here (code_from k ss address here (xs ++ p ∷ ys))
        → Stand code (end_of k here xs) (code_by k p.section (end_of k here xs) (address (target_of k ss p.goal)) p.what)
    position_stands here [] p ys h = stand_front code here (code_by k p.section here (address (target_of k ss p.goal)) p.what) (code_from k ss address (here + words_at k p) ys) h
    position_stands here (x ∷ xs) p ys h =
        let first : List Instr = code_by k x.section here (address (target_of k ss x.goal)) x.what in
        let same = steady_at x.section here (address (target_of k ss x.goal)) x.what in
        let rest = stand_back code here first (code_from k ss address (here + words_at k x) (xs ++ p ∷ ys)) h in
        position_stands (here + words_at k x) xs p ys (subst (λ n. Stand code (here + n) (code_from k ss address (here + words_at k x) (xs ++ p ∷ ys))) same rest)
