-- Bodies of functions: from what the statement of a body does to the run of a call.
use Rattle.std.proofs.Common.{◌≡◌, ℕ, suc, ◌+◌, ◌≤◌, ◌∙◌}
use Rattle.std.specs.Prelude.{⊤}
use Rattle.c_tree.specs.declared.leaving.Leaving.{Leaving}
use Rattle.c_tree.specs.declared.leaving.Leaving.TheVariants.{Next, Broke, Continued, Returned}
use Rattle.c_tree.specs.Runs.{State, Got, Done, Trapped, Stopped, Part, ◌>>=◌}
use Rattle.c_tree.specs.Nodes.{come_back}
use Rattle.flow_graph.specs.declared.graph.Graph.{Graph}
use Rattle.flow_graph.specs.Nodes.{first_of, laid_items, around_body, entry}
use Rattle.flow_graph.specs.Flow.{Spot}
use Rattle.lowered_graphs.specs.Making.{Counts, Emit}
use Rattle.lowered_graphs.specs.declared.positions.Position.TheVariants.{Body}
use Rattle.lowered_meaning.specs.Runs.{Runs}
use Rattle.lowered_meaning.specs.Tracks.{Stand}
use Rattle.lowered_meaning.specs.Leaves.{Callee, Returning, Since, StmtDone, StmtTracks}
use Rattle.lowered_meaning.proofs.RunLemmas.{runs_on, runs_done}
use Rattle.lowered_meaning.proofs.Calls.{BodyRuns}

-- what holds of the answer where a part is done
abbrev pub OnDone : {A : Type 0} → (A → Type 0) → Got A → Type 0
OnDone P (Done es v d) = P v
OnDone P (Trapped es t) = ⊤
OnDone P (Stopped es) = ⊤

pub runs_known : {A : Type 0} (g : Graph) (most a b o u : ℕ) (got : Got A) (s : Spot) (rel : A → State → Spot → Type 0) (P : A → Type 0)
    → OnDone P got → Runs g most a b o u got s rel → Runs g most a b o u got s (λ v d z. rel v d z × P v)
runs_known g most a b o u (Done es v d) s rel P on r = record { ops = r.ops; spot = r.spot; does = r.does; related = (r.related, on); pays = r.pays }
runs_known g most a b o u (Trapped es t) s rel P on r = r
runs_known g most a b o u (Stopped es) s rel P on r = r

abbrev pub IsReturned : Leaving → Type 0
IsReturned Next = ⊥
IsReturned Broke = ⊥
IsReturned Continued = ⊥
IsReturned (Returned v) = ⊤

-- a body that is left by `return` alone
pub body_returns : (g : Graph) (f : Callee) (scope : ℕ → Type 0) (most n place : ℕ) (p : Part Leaving) (emit : Emit (Unit {0})) (c : Counts)
    → StmtTracks g f scope most n Body p emit → ((d : State) → OnDone IsReturned (p d)) → f.ground.base ≤ c.temp → (emit c).counts.temp ≤ f.ground.top
    → Stand g around_body (emit c).items → entry g place ≡ first_of (laid_items (emit c).items) 0
    → BodyRuns g f scope most n place (p >>= come_back)
body_returns g f scope most n place p emit c tracks returned le top stand first s d a o at agrees ready =
    runs_on g most (a + n) a a o (suc o) (suc o) (p d) come_back s (λ l e z. StmtDone g f scope Body around_body s d l e z × IsReturned l) goal
    (runs_known g most (a + n) a o (suc o) (p d) s (StmtDone g f scope Body around_body s d) IsReturned (returned d) (tracks c le top around_body s d a o agrees ready stand (at ∙ first)))
    (λ l e z r. by_leaving l e z r.0 r.1)
  where
    goal : ℕ → State → Spot → Type 0
    goal v e z = Returning g f v z × Since f.ground scope s d e z

    by_leaving : (l : Leaving) (e : State) (z : Spot) → StmtDone g f scope Body around_body s d l e z → IsReturned l → Runs g most a a (suc o) (suc o) (come_back l e) z goal
    by_leaving Next e z r is = absurd is
    by_leaving Broke e z r is = absurd is
    by_leaving Continued e z r is = absurd is
    by_leaving (Returned v) e z r is = runs_done g most a (suc o) v e z goal (r.left, r.since)
