-- The words of a claim: `claim waste W limit K step S forced F` and what was counted.
use Rattle.std.specs.{Fmt.{decimal}, Prelude.{ℕ, List, ◌++◌, codes}}
use Rattle.claim_line.specs.declared.{claim.Claim.{Claim}, claim.InputCount.{InputCount}, requests.Requests.{Requests}}
use Rattle.claim_line.specs.declared.claim.InputCount.TheVariants.{Requests as OfRequests, Snapshots, Events}

-- The first words, with what the cost is called.
abbrev pub head_of : InputCount → List ℕ
head_of (OfRequests requests) = codes "claim waste "
head_of (Snapshots count) = codes "claim footprint "
head_of (Events count) = codes "claim footprint "

abbrev pub shown_requests : Requests → List ℕ
shown_requests all =
    codes " sizes " ++ decimal all.sizes ++ codes " requests " ++ decimal all.requests
    ++ codes " bytes " ++ decimal all.bytes ++ codes " large " ++ decimal all.large

abbrev pub shown_counted : InputCount → List ℕ
shown_counted (OfRequests requests) = shown_requests requests
shown_counted (Snapshots count) = codes " snapshots " ++ decimal count
shown_counted (Events count) = codes " events " ++ decimal count

abbrev pub shown_claim : Claim → List ℕ
shown_claim claim =
    head_of claim.counted ++ decimal claim.cost ++ codes " limit " ++ decimal claim.limit
    ++ codes " step " ++ decimal claim.step ++ codes " forced " ++ decimal claim.forced ++ shown_counted claim.counted
