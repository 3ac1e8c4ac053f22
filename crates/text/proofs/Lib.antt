mod HexSteps
