use Rattle.std.proofs.Common.{rules}
use Rattle.c_tree.proofs.Store.{store_more, store_all}
use Rattle.c_tree.proofs.saying.first_store.Goals as goal

pub loop-v-preserved : goal.loop-v-preserved
loop-v-preserved c = store_more c.loop-v.store.items _ c.in_ok-words.words c.in-Some.v.now c.loop-v.rest.now _ _ (search rules) c.in_ok-words.ensures c.in-Some.ensures c.loop-v.invariant

pub returns : goal.returns
returns c = store_all c.loop-v.store.items c.loop-v.rest.now _ c.in_default.ensures c.loop-v.invariant
