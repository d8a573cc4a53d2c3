mod DepthSteps
