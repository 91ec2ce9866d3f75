-- inner contracts: how a name lies in memory
use Rattle.std.specs.Prelude.{true, ◌≡◌, ℕ, ◌-◌, ◌≤◌, List, ◌++◌, length, take, drop, replicate}
use Rattle.std.proofs.Common.{arith}
use Rattle.std.proofs.lemmas.List.{take-append-drop, length-take-le}
use Rattle.casa_filing.specs.Text.{is_name}
use Rattle.casa_filing.specs.declared.name.Name.TheInside.{Inside}

pub record IsInside {Kind : Type 0} (n : Inside Kind) : Type 0 where
  pub name : is_name (take n.len n.bytes) ≡ true
  pub few : n.len ≤ 10
  pub size : length n.bytes ≡ 10
  pub rest : drop n.len n.bytes ≡ replicate (10 - n.len) 0

abbrev pub padded : {Kind : Type 0} → List ℕ → Inside Kind
padded t = record { bytes = t ++ replicate (10 - length t) 0; len = length t; kind = record {} }

pub inside_padded : {Kind : Type 0} (n : Inside Kind) → IsInside n → padded (take n.len n.bytes) ≡ n
inside_padded n h =
    let len_is : length (take n.len n.bytes) ≡ n.len = length-take-le n.len n.bytes (omega (arith, h.few, h.size)) in
    let bytes_is : take n.len n.bytes ++ replicate (10 - length (take n.len n.bytes)) 0 ≡ n.bytes =
    rw len_is (rw (← h.rest) (take-append-drop n.len n.bytes)) in
    λ i. record { bytes = bytes_is i; len = len_is i; kind = n.kind }
