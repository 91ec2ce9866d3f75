use Rattle.std.proofs.Common.{◌≡◌, ◌+◌, ℕ, List, [], ◌∷◌, ◌++◌, length, refl, sym, ap, subst, ◌∙◌, arith, rules}
use Rattle.std.proofs.Math.Logic.{∥∥₁_elim}
use Rattle.std.proofs.lemmas.List.Elements.{All-push}
use Rattle.casa_history.specs.declared.entry.Entry.{Entry}
use Rattle.casa_history.specs.declared.entry.Receipt.{Receipt}
use Rattle.casa_history.specs.Entries.{entries, receipt, receipts_from}
use Rattle.casa_commit.specs.Legal.{replay, IsLegal}
use Rattle.casa_commit.proofs.Replays.{good_state, legal_push, replay_push}
use Rattle.casa_branch.specs.Behind.{entries_in, AreOwn, only_desk}
use Rattle.casa_branch.proofs.Grown.{behind-length, entries-push, positions-push}
use Rattle.casa_branch.proofs.branch.Branch.extend.Given.{Over}
use Rattle.casa_branch.proofs.branch.Branch.extend.Goals as goal

abbrev OfWorld : Over → Type 0
OfWorld g = Entry g.row.W-Call.Denot g.row.W-Reply.Denot

abbrev ReceiptOfWorld : Over → Type 0
ReceiptOfWorld g = Receipt g.row.W-Call.Denot g.row.W-Reply.Denot

-- the receipt is that of the next entry
pub invariant_of-self-2 : goal.invariant_of-self-2
invariant_of-self-2 g c =
    let W = g.W.World in
    let m = g.met.W.World in
    let b = c.args.self.now in
    let a = c.args.answered in
    let before = entries b.earlier.value in
    let rs = b.given.items in
    let es = before ++ entries_in rs in
    let n = c.in_ok-position.position in
    let r : ReceiptOfWorld g = receipt n c.in_ok-entry.entry in
    let same : c.in_ok-entry.entry ≡ a = c.in_ok-entry.ensures in
    let given : c.push_reserved.new.self.items ≡ rs ++ r ∷ [] = search (rules) in
    let number : n ≡ length es + 1 = c.in_ok-position.ensures in
    let next : n ≡ length before + 1 + length rs = omega (arith, number, behind-length before rs) in
    let fine = good_state W.good W.after m.good_after W.opening m.good_opening es (W.state b.world) b.replayed in
    let applied = m.alike_applied b.world c.fits.new.self n c.args.change c.apply.new.self c.fits.ensures.alike c.apply.ensures in
    let stands : W.state c.apply.new.self ≡ W.after n (W.state b.world) a.call =
    ∥∥₁_elim c.requires.right (W.state_set _ _) (λ h. m.applied_after b.world n a.call c.args.change c.apply.new.self fine h applied) in
    let goes : W.state c.apply.new.self ≡ replay W.after W.opening (es ++ a ∷ []) =
    stands ∙ replay_push W.after W.opening es a n (W.state b.world) number b.replayed in
    let legal : IsLegal W.after W.reply W.opening (es ++ a ∷ []) =
    legal_push W.after W.reply W.opening es a b.legal (c.requires.reply ∙ ap (λ (s : W.state_type). W.reply s a.call) b.replayed) in
    let items : before ++ entries_in c.push_reserved.new.self.items ≡ es ++ a ∷ [] =
    ap (λ (xs : List (ReceiptOfWorld g)). before ++ entries_in xs) given ∙ entries-push before rs r ∙ ap (λ (x : OfWorld g). es ++ x ∷ []) same in
    record {
      counted = b.counted;
      own = subst AreOwn (sym given) (All-push (λ (x : ReceiptOfWorld g). x.entry.desk ≡ only_desk) rs r b.own (ap (λ (x : OfWorld g). x.desk) same ∙ c.requires.own));
      positions =
          subst (λ (xs : List (ReceiptOfWorld g)). xs ≡ receipts_from (length before + 1) (entries_in xs)) (sym given)
          (positions-push (length before + 1) rs r b.positions next);
      replayed = goes ∙ ap (replay W.after W.opening) (sym items);
      legal = subst (λ (xs : List (OfWorld g)). IsLegal W.after W.reply W.opening xs) (sym items) legal;
    }

-- it stands at the next position
pub returns-clause-answered : goal.returns-clause-answered
returns-clause-answered g c =
    ap (λ (k : ℕ). receipt {C = g.row.W-Call.Denot} {R = g.row.W-Reply.Denot} k c.args.answered) c.in_ok-position.ensures
