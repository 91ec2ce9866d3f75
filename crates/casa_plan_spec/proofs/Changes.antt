-- what a change says
use Rattle.std.proofs.Common.{◌≡◌, List, [], true, false, cond, refl, sym, ap, subst, ◌∙◌, ◌&&◌, Option, None, Some, if◌then◌else◌}
use Rattle.std.specs.Ordering.{is_eq}
use Rattle.std.specs.Option.{option_map}
use Rattle.casa_flight.specs.declared.call.Call.{Call}
use Rattle.casa_flight.specs.declared.call.Refusal.{Refusal}
use Rattle.casa_flight.specs.declared.reply.Reply.TheVariants.{Refused, Answered}
use Rattle.casa_flight.specs.declared.state.State.{State}
use Rattle.casa_filing.specs.Text.{Text, same_text, at_name, put}
use Rattle.casa_flight.specs.Steps.{Step, refused, leads, step, after, next}
use Rattle.casa_flight.specs.declared.reply.Reply.{Reply}
use Rattle.casa_flight.specs.Listing.{Listing, list_of}
use Rattle.casa_flight.specs.Replies.{reply_of, answer, messages}
use Rattle.casa_filing.proofs.Entries.{text_cmp, itself, named, apart, at-put}
use Rattle.casa_footprint.specs.Items.{ItemName, the_clock, the_catalogue, a_row, a_list, contents}
use Rattle.casa_footprint.specs.Footprint.{would_write, is_accepted}
use Rattle.casa_plan_spec.specs.Sight.{Written, nothing_written, says, IsAnswerIn}

pub says-nothing : (lists : Text → Option Listing) (i : ItemName) → says lists nothing_written i ≡ None
says-nothing lists the_clock = refl
says-nothing lists the_catalogue = refl
says-nothing lists (a_row key) = refl
says-nothing lists (a_list id) = refl

-- a refused call is answered by its refusal and writes nothing
pub refusal : (m : State) (call : Call) (r : Refusal) → step m call ≡ refused r → IsAnswerIn m call (Refused r, nothing_written)
refusal m call r e = (
  sym (ap (reply_of m call) e),
  λ i. says-nothing (list_of m) i ∙ sym (ap (λ (s : Step). if is_accepted s && would_write m call i then Some (contents (next m call) i) else None) e),
)

-- what a change says that has what a call would write, as it is in this state
abbrev pub Says : State → Call → State → Written → Type 0
Says m call n w = (i : ItemName) → says (list_of m) w i ≡ (if would_write m call i then Some (contents n i) else None)

-- a call that leads to a state is answered in it, and writes what it would write
pub acceptance : (m : State) (call : Call) (n : State) (r : Reply) (w : Written) → step m call ≡ leads n → r ≡ Answered (answer n call) (messages m n) → Says m call n w → IsAnswerIn m call (r, w)
acceptance m call n r w e told wrote = (
  told ∙ sym (ap (reply_of m call) e),
  λ i. wrote i ∙ sym (ap (λ (s : Step). if is_accepted s && would_write m call i then Some (contents (after m s) i) else None) e),
)

-- the two tests of names are one
pub test_same : (a b : Text) → is_eq (text_cmp b a) ≡ same_text a b
test_same a b =
    elim (same_text a b) as (λ t. same_text a b ≡ t → is_eq (text_cmp b a) ≡ t) [
      | true ↦ λ h. subst (λ (q : Text). is_eq (text_cmp q a) ≡ true) (named a b h) (itself a)
      | false ↦ λ h. apart a b h
    ] refl

pub at-put_by : {X : Type 0} (q k : Text) (v : X) (es : List (Text × X)) → at_name (put es k v) q ≡ (if same_text k q then Some v else at_name es q)
at-put_by {X} q k v es = at-put q k v es ∙ ap (λ b. cond b (Some v) (at_name es q)) (test_same k q)

-- what is written under one name alone
pub one_written : {X Y : Type 0} (f : X → Y) (g : Text → Y) (k : Text) (x : X) → f x ≡ g k → (q : Text) → option_map f (at_name (put [] k x) q) ≡ (if same_text k q then Some (g q) else None)
one_written {X} {Y} f g k x e q =
    ap (option_map f) (at-put_by q k x []) ∙
    (elim (same_text k q) as (λ t. same_text k q ≡ t → option_map f (if t then Some x else None) ≡ (if t then Some (g q) else None)) [
      | true ↦ λ h. ap (λ (y : Y). Some y) (e ∙ ap g (named k q h))
      | false ↦ λ h. refl
    ] refl)
