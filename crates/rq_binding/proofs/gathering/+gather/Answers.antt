use Rattle.rq_binding.proofs.Carry.{on_ok}
use Rattle.rq_binding.proofs.Nodes as n
use Rattle.rq_binding.proofs.gathering.+gather.Goals as goal

pub gather-returns-in-Some : goal.gather-returns-in-Some
gather-returns-in-Some t c = on_ok c.gather_drawn.result (λ q. n.gathered_node c.args.sort _ _ _ _ _ _ _ _ _ c.in-Call.is c.bytes.ensures.bytes c.as_slice.ensures c.in-Some.is c.call_node.ensures q) c.gather_drawn.ensures

pub gather-returns-in-None : goal.gather-returns-in-None
gather-returns-in-None t c = on_ok c.gather_list.result (λ q. n.gathered_call c.args.sort _ _ _ _ _ _ _ _ _ c.in-Call.is c.bytes.ensures.bytes c.as_slice.ensures c.as_slice-in-None.ensures c.in-None.is c.call_node.ensures q) c.gather_list.ensures

pub gather-returns-in_ok-gather-in-Binary : goal.gather-returns-in_ok-gather-in-Binary
gather-returns-in_ok-gather-in-Binary t c = on_ok c.gather-in-Binary-2.result (λ q. n.gathered_binary c.args.sort _ _ _ _ _ _ _ _ _ c.in-Binary.is c.get-in-Binary.ensures c.get-in-Binary-2.ensures c.in_ok-gather-in-Binary.ensures q) c.gather-in-Binary-2.ensures

pub gather-returns-in_ok-gather-in-InList : goal.gather-returns-in_ok-gather-in-InList
gather-returns-in_ok-gather-in-InList t c = on_ok c.gather_list-in-InList.result (λ q. n.gathered_in_list c.args.sort _ _ _ _ _ _ _ _ _ c.in-InList.is c.get-in-InList.ensures c.as_slice-in-InList.ensures c.in_ok-gather-in-InList.ensures q) c.gather_list-in-InList.ensures

pub gather-returns-in_ok-gather-in-Between-2 : goal.gather-returns-in_ok-gather-in-Between-2
gather-returns-in_ok-gather-in-Between-2 t c = on_ok c.gather-in-Between-3.result (λ q. n.gathered_between c.args.sort _ _ _ _ _ _ _ _ _ _ _ _ c.in-Between.is c.get-in-Between.ensures c.get-in-Between-2.ensures c.get-in-Between-3.ensures c.in_ok-gather-in-Between.ensures c.in_ok-gather-in-Between-2.ensures q) c.gather-in-Between-3.ensures
