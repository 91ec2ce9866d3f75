-- flights that are put behind others one by one
use Rattle.std.proofs.Common.{◌≡◌, List, [], ◌∷◌, ◌++◌, refl, sym, ap, ◌∙◌, Option, None, Some, append_assoc}
use Rattle.std.specs.List.{cons_option}
use Rattle.std.proofs.lemmas.List.{append-nil}
use Rattle.std.proofs.lemmas.List.Elements.{filter_map-append}
use Rattle.casa_flight.specs.declared.comp.Comp.{Comp}
use Rattle.casa_filing.specs.declared.regulation.Regulation.{Regulation}
use Rattle.casa_flight.specs.declared.row.Row.{Row}
use Rattle.casa_filing.specs.Text.{Text, at_name}
use Rattle.casa_table.specs.declared.asking.FlightOver.{FlightOver}
use Rattle.casa_table.specs.Asking.{HaveRows, comps_of, comp_over, comps_under, AreBehind}

module _ (r : Regulation) (rows : List (Text × Row)) where
  -- of all these keys, those that are left are still to come
  pub record AreLeft (left all : List Text) (before now : List FlightOver) : Type 0 where
    pub comps : comps_of now ++ comps_under r rows left ≡ comps_of before ++ comps_under r rows all
    pub have_rows : HaveRows rows before → HaveRows rows now

  pub all_left : (left all : List Text) (flights : List FlightOver) → left ≡ all → AreLeft left all flights flights
  all_left left all flights same = record {
    comps = ap (λ (ks : List Text). comps_of flights ++ comps_under r rows ks) same;
    have_rows = λ h. h;
  }

  pub one_less : (k : Text) (left all : List Text) (before now next : List FlightOver)
      → AreBehind r rows (k ∷ []) now next → AreLeft (k ∷ left) all before now → AreLeft left all before next
  one_less k left all before now next put h = record {
    comps =
        ap (λ (cs : List Comp). cs ++ comps_under r rows left) put.comps
        ∙ append_assoc (comps_of now) (comps_under r rows (k ∷ [])) (comps_under r rows left)
        ∙ ap (λ (cs : List Comp). comps_of now ++ cs) (joined (comp_over r k (at_name rows k))) ∙ h.comps;
    have_rows = λ g. put.have_rows (h.have_rows g);
  }
    where
      joined : (o : Option Comp) → cons_option o [] ++ comps_under r rows left ≡ cons_option o (comps_under r rows left)
      joined None = refl
      joined (Some c) = refl

  pub none_left : (left all : List Text) (before now : List FlightOver) → left ≡ [] → AreLeft left all before now
      → AreBehind r rows all before now
  none_left left all before now none h = record {
    comps =
        sym (append-nil (comps_of now))
        ∙ ap (λ (ks : List Text). comps_of now ++ comps_under r rows ks) (sym none) ∙ h.comps;
    have_rows = h.have_rows;
  }

  -- of some keys, and then of others
  pub behind_both : (ks ls : List Text) (a b c : List FlightOver) → AreBehind r rows ks a b → AreBehind r rows ls b c
      → AreBehind r rows (ks ++ ls) a c
  behind_both ks ls a b c first second = record {
    comps =
        second.comps ∙ ap (λ (cs : List Comp). cs ++ comps_under r rows ls) first.comps
        ∙ append_assoc (comps_of a) (comps_under r rows ks) (comps_under r rows ls)
        ∙ ap (λ (cs : List Comp). comps_of a ++ cs)
        (sym (filter_map-append (λ (k : Text). comp_over r k (at_name rows k)) ks ls));
    have_rows = λ h. second.have_rows (first.have_rows h);
  }
